use Rattle.std.proofs.Common.{◌≡◌, ◌+◌, ◌*◌, [], drop, map}
use Rattle.sail_types.specs.Named.{field_types}
use Rattle.size_values.specs.Sizes.{each_listed, listed_within}
use Rattle.size_values.proofs.sizes.+sizes.Given as goal

-- the rest is listed behind
abbrev pub invariant-list_each-loop-part : goal.invariant-list_each-loop-part
invariant-list_each-loop-part l =
    each_listed (map (listed_within l.types l.depth) (drop l.part-index l.parts)) l.around l.constants l.own l.listed
    ≡ each_listed (map (listed_within l.types l.depth) l.parts) l.around l.constants l.own l.fn.listed

abbrev pub invariant-list_fields-loop-field : goal.invariant-list_fields-loop-field
invariant-list_fields-loop-field l =
    each_listed (map (listed_within l.types l.depth) (field_types (drop l.field-index l.fields))) l.around l.constants [] l.listed
    ≡ each_listed (map (listed_within l.types l.depth) (field_types l.fields)) l.around l.constants [] l.fn.listed

-- a depth counts four times, so that the calls between two depths count down too
abbrev pub decreases-list_within : goal.decreases-list_within
decreases-list_within l = 4 * l.depth

abbrev pub decreases-list_form : goal.decreases-list_form
decreases-list_form l = 4 * l.depth + 3

abbrev pub decreases-list_each : goal.decreases-list_each
decreases-list_each l = 4 * l.depth + 1

abbrev pub decreases-list_named : goal.decreases-list_named
decreases-list_named l = 4 * l.depth + 2

abbrev pub decreases-list_fields : goal.decreases-list_fields
decreases-list_fields l = 4 * l.depth + 1
