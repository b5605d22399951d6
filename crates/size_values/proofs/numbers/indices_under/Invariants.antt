use Rattle.std.proofs.Common.{◌≡◌, ◌++◌, drop, map}
use Rattle.size_values.specs.Numbers.{index_under, meant}
use Rattle.size_values.proofs.numbers.indices_under.Given as goal

abbrev pub invariant-loop-index : goal.invariant-loop-index
invariant-loop-index l =
    l.made ++ map (index_under (meant l.variables)) (drop l.index-index l.indices) ≡ map (index_under (meant l.variables)) l.indices
