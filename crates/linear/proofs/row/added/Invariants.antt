use Rattle.std.proofs.Common.{◌≡◌, drop, take}
use Rattle.linear.specs.Numbers.{are_within}
use Rattle.linear.specs.Rows.{added}
use Rattle.linear.proofs.row.added.Given as goal

abbrev pub invariant-loop-place : goal.invariant-loop-place
invariant-loop-place l = record {
  sums : l.sums ≡ take l.place (added l.first l.second);
  within : are_within (drop l.place (added l.first l.second)) ≡ are_within (added l.first l.second);
}
