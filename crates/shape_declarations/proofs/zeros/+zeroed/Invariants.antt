use Rattle.std.proofs.Common.{◌≡◌, ◌+◌, ◌*◌, drop, map, ◌++◌}
use Rattle.sail_types.specs.Named.{field_types}
use Rattle.shape_declarations.specs.Zeros.{zeroed_within, each_zeroed}
use Rattle.shape_declarations.proofs.zeros.+zeroed.Given as goal

abbrev pub invariant-each_zeroed-loop-part : goal.invariant-each_zeroed-loop-part
invariant-each_zeroed-loop-part l =
    l.made ++ each_zeroed (map (zeroed_within l.types l.depth) (drop l.part-index l.parts)) l.indices l.given
    ≡ each_zeroed (map (zeroed_within l.types l.depth) l.parts) l.indices l.given

abbrev pub invariant-fields_zeroed-loop-field : goal.invariant-fields_zeroed-loop-field
invariant-fields_zeroed-loop-field l =
    l.made ++ each_zeroed (map (zeroed_within l.types l.depth) (field_types (drop l.field-index l.fields))) l.indices l.given
    ≡ each_zeroed (map (zeroed_within l.types l.depth) (field_types l.fields)) l.indices l.given

-- a depth counts four times, so that the calls between two depths count down too
abbrev pub decreases-zeroed_within : goal.decreases-zeroed_within
decreases-zeroed_within l = 4 * l.depth

abbrev pub decreases-form_zeroed : goal.decreases-form_zeroed
decreases-form_zeroed l = 4 * l.depth + 3

abbrev pub decreases-each_zeroed : goal.decreases-each_zeroed
decreases-each_zeroed l = 4 * l.depth + 1

abbrev pub decreases-fields_zeroed : goal.decreases-fields_zeroed
decreases-fields_zeroed l = 4 * l.depth + 1

abbrev pub decreases-table_zeroed : goal.decreases-table_zeroed
decreases-table_zeroed l = 4 * l.depth + 2
