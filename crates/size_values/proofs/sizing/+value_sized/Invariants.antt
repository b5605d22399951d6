use denote.Param.Weighed.{most}
use Rattle.std.proofs.Common.{◌≡◌, ◌+◌, ◌*◌, ◌++◌, drop, map}
use Rattle.value_indices.proofs.indices.Indices.TheLaws.{the_size}
use Rattle.value_indices.proofs.indices.Reading.TheLaws.{the_size as type_size}
use Rattle.size_values.specs.Numbers.{meant}
use Rattle.size_values.specs.Sized.{reading_sized, value_sized}
use Rattle.size_values.proofs.sizing.+value_sized.Given as goal

abbrev pub invariant-values_sized-loop-part : goal.invariant-values_sized-loop-part
invariant-values_sized-loop-part l =
    l.made ++ map (value_sized l.types l.own (meant l.variables)) (drop l.part-index l.parts)
    ≡ map (value_sized l.types l.own (meant l.variables)) l.parts

abbrev pub invariant-readings_sized-loop-part : goal.invariant-readings_sized-loop-part
invariant-readings_sized-loop-part l =
    l.made ++ map (reading_sized l.types l.own (meant l.variables)) (drop l.part-index l.parts)
    ≡ map (reading_sized l.types l.own (meant l.variables)) l.parts

-- the depth of the value or the type; a list stands above each of its parts
abbrev pub decreases-value_sized : goal.decreases-value_sized
decreases-value_sized l = 2 * the_size l.indices.now

abbrev pub decreases-values_sized : goal.decreases-values_sized
decreases-values_sized l = 2 * most the_size l.parts.now + 1

abbrev pub decreases-reading_sized : goal.decreases-reading_sized
decreases-reading_sized l = 2 * type_size l.reading.now

abbrev pub decreases-readings_sized : goal.decreases-readings_sized
decreases-readings_sized l = 2 * most type_size l.parts.now + 1
