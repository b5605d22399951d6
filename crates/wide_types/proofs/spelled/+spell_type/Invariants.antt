use Rattle.std.proofs.Common.{◌≡◌, drop, map, ◌++◌}
use Rattle.wide_types.specs.Widening.{type_spelled, value_spelled}
use Rattle.wide_types.proofs.spelled.+spell_type.Given as goal

abbrev pub invariant-spell_values-loop-part : goal.invariant-spell_values-loop-part
invariant-spell_values-loop-part l = l.made ++ map value_spelled (drop l.part-index l.parts) ≡ map value_spelled l.parts

abbrev pub invariant-spell_types-loop-reading : goal.invariant-spell_types-loop-reading
invariant-spell_types-loop-reading l = l.made ++ map type_spelled (drop l.reading-index l.readings) ≡ map type_spelled l.readings
