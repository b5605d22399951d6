use Rattle.std.proofs.Common.{◌≡◌, drop, map, ◌++◌}
use Rattle.call_arguments.specs.Holes.{value_without_holes, without_holes}
use Rattle.call_arguments.proofs.holes.+without_holes.Given as goal

abbrev pub invariant-values_without_holes-loop-value : goal.invariant-values_without_holes-loop-value
invariant-values_without_holes-loop-value l = l.made ++ map value_without_holes (drop l.value-index l.values) ≡ map value_without_holes l.values

abbrev pub invariant-types_without_holes-loop-reading : goal.invariant-types_without_holes-loop-reading
invariant-types_without_holes-loop-reading l = l.made ++ map without_holes (drop l.reading-index l.readings) ≡ map without_holes l.readings
