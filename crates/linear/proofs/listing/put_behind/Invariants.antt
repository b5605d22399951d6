use Rattle.std.proofs.Common.{◌≡◌, ◌++◌, drop}
use Rattle.linear.specs.Cases.{behind}
use Rattle.linear.proofs.listing.put_behind.Given as goal

abbrev pub invariant-loop-last : goal.invariant-loop-last
invariant-loop-last l = l.cases ++ behind l.all (drop l.last-index l.lasts) ≡ behind l.all l.lasts
