use Rattle.std.proofs.Common.{◌≡◌, drop, map, ◌++◌}
use Rattle.wide_types.specs.Widening.{wide_value, widened_type}
use Rattle.wide_types.proofs.wide.+widened_type.Given as goal

abbrev pub invariant-wide_values-loop-part : goal.invariant-wide_values-loop-part
invariant-wide_values-loop-part l = l.made ++ map wide_value (drop l.part-index l.parts) ≡ map wide_value l.parts

abbrev pub invariant-widened_types-loop-reading : goal.invariant-widened_types-loop-reading
invariant-widened_types-loop-reading l = l.made ++ map widened_type (drop l.reading-index l.readings) ≡ map widened_type l.readings
