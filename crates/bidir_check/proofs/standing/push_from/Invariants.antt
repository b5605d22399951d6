use Rattle.std.proofs.Common.{◌≡◌, ◌≤◌, ◌-◌, take, length}
use Rattle.bidir_check.proofs.standing.push_from.Given as goal

abbrev pub invariant-loop-place : goal.invariant-loop-place
invariant-loop-place g l = record {
  facts : g.E.Entail.facts l.entail ≡ take l.place l.facts;
  within : l.place ≤ length l.facts;
}

abbrev pub decreases-loop-place : goal.decreases-loop-place
decreases-loop-place g l = length l.facts - l.place
