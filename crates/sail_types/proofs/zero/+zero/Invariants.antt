use Rattle.std.proofs.Common.{◌≡◌, ◌+◌, ◌*◌, drop, map, ◌++◌}
use Rattle.sail_types.specs.Named.{field_types}
use Rattle.sail_types.specs.Readings.{behind, together}
use Rattle.sail_types.specs.Zero.{zero_within, each_zero, field_zeros}
use Rattle.sail_types.proofs.zero.+zero.Given as goal

abbrev pub invariant-zeros_within-loop-part : goal.invariant-zeros_within-loop-part
invariant-zeros_within-loop-part l =
    l.made ++ each_zero (map (zero_within l.types l.depth) (drop l.part-index l.parts)) l.indices l.zeros
    ≡ each_zero (map (zero_within l.types l.depth) l.parts) l.indices l.zeros

abbrev pub invariant-parts_within-loop-part : goal.invariant-parts_within-loop-part
invariant-parts_within-loop-part l =
    behind l.made (together (each_zero (map (zero_within l.types l.depth) (drop l.part-index l.parts)) l.indices l.zeros))
    ≡ together (each_zero (map (zero_within l.types l.depth) l.parts) l.indices l.zeros)

abbrev pub invariant-fields_within-loop-field : goal.invariant-fields_within-loop-field
invariant-fields_within-loop-field l =
    behind l.made (together (field_zeros (zero_within l.types l.depth) (field_types (drop l.field-index l.fields)) l.indices l.zeros))
    ≡ together (field_zeros (zero_within l.types l.depth) (field_types l.fields) l.indices l.zeros)

-- a depth counts four times, so that the calls between two depths count down too
abbrev pub decreases-zero_within : goal.decreases-zero_within
decreases-zero_within l = 4 * l.depth

abbrev pub decreases-zero_of_form : goal.decreases-zero_of_form
decreases-zero_of_form l = 4 * l.depth + 3

abbrev pub decreases-zeros_within : goal.decreases-zeros_within
decreases-zeros_within l = 4 * l.depth + 1

abbrev pub decreases-parts_within : goal.decreases-parts_within
decreases-parts_within l = 4 * l.depth + 1

abbrev pub decreases-fields_within : goal.decreases-fields_within
decreases-fields_within l = 4 * l.depth + 1

abbrev pub decreases-zero_named : goal.decreases-zero_named
decreases-zero_named l = 4 * l.depth + 2
