use Rattle.std.proofs.Common.{◌≡◌, drop, ◌++◌}
use Rattle.size_values.proofs.sizes.copy_sizes.Given as goal

abbrev pub invariant-loop-size : goal.invariant-loop-size
invariant-loop-size l = l.copies ++ drop l.size-index l.sizes ≡ l.sizes
