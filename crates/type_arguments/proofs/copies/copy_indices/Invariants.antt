use Rattle.std.proofs.Common.{◌≡◌, drop, ◌++◌}
use Rattle.type_arguments.proofs.copies.copy_indices.Given as goal

abbrev pub invariant-loop-index : goal.invariant-loop-index
invariant-loop-index l = l.copies ++ drop l.index-index l.indices ≡ l.indices
