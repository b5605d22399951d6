use Rattle.std.proofs.Common.{◌≡◌, ◌≤◌, take, length, reverse}
use Rattle.farkas.specs.Pruning.{marked, last_marked}
use Rattle.farkas.proofs.pruning.marked.Given as goal

abbrev pub invariant-loop-left : goal.invariant-loop-left
invariant-loop-left l = record {
  within : l.left ≤ length l.steps;
  same : marked l.count (reverse (take l.left l.steps)) l.marks ≡ marked l.count (reverse l.steps) (last_marked l.count l.steps);
}

abbrev pub decreases-loop-left : goal.decreases-loop-left
decreases-loop-left l = l.left
