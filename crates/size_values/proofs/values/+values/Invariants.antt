use Rattle.std.proofs.Common.{◌≡◌, ◌++◌, drop, map}
use Rattle.size_values.specs.Numbers.{meant}
use Rattle.size_values.specs.Sizes.{joined, reading_sizes, value_sizes}
use Rattle.size_values.proofs.values.+values.Given as goal

abbrev pub invariant-sizes_of_values-loop-part : goal.invariant-sizes_of_values-loop-part
invariant-sizes_of_values-loop-part l =
    l.made ++ joined (map (value_sizes l.types (meant l.variables)) (drop l.part-index l.parts))
    ≡ joined (map (value_sizes l.types (meant l.variables)) l.parts)

abbrev pub invariant-sizes_of_readings-loop-part : goal.invariant-sizes_of_readings-loop-part
invariant-sizes_of_readings-loop-part l =
    l.made ++ map (reading_sizes l.types (meant l.variables)) (drop l.part-index l.parts)
    ≡ map (reading_sizes l.types (meant l.variables)) l.parts
