use Rattle.std.proofs.Common.{◌≡◌, ◌++◌, drop}
use Rattle.size_values.specs.Numbers.{meant}
use Rattle.told_sizes.specs.Exact.{exact_constants}
use Rattle.told_sizes.proofs.numbers.exact_constants.Given as goal

abbrev pub invariant-loop-index : goal.invariant-loop-index
invariant-loop-index l =
    l.made ++ exact_constants (meant l.variables) (drop l.index-index l.indices) ≡ exact_constants (meant l.variables) l.indices
