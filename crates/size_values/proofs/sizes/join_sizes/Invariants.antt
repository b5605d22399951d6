use Rattle.std.proofs.Common.{◌≡◌, drop, ◌++◌}
use Rattle.size_values.specs.Sizes.{joined}
use Rattle.size_values.proofs.sizes.join_sizes.Given as goal

abbrev pub invariant-loop-sizes : goal.invariant-loop-sizes
invariant-loop-sizes l = l.made ++ joined (drop l.sizes-index l.lists) ≡ joined l.lists
