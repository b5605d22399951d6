use Rattle.std.proofs.Common.{◌≡◌, ◌≤◌, take}
use Rattle.bidir_check.proofs.standing.pop_to.Given as goal

abbrev pub invariant-loop-count : goal.invariant-loop-count
invariant-loop-count g l = record {
  facts : g.E.Entail.facts l.entail ≡ take l.count (g.E.Entail.facts l.fn.entail);
  within : l.count ≤ l.standing;
  left : l.left ≤ l.count;
}

abbrev pub decreases-loop-count : goal.decreases-loop-count
decreases-loop-count g l = l.count
