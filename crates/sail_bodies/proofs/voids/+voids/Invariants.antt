use Rattle.std.proofs.Common.{◌≡◌, ◌+◌, ◌*◌, drop}
use Rattle.std.specs.List.{list_any}
use Rattle.sail_bodies.specs.Voids.{voids_within, fields_void}
use Rattle.sail_bodies.proofs.voids.+voids.Given as goal

abbrev pub invariant-any_voids-loop-typ : goal.invariant-any_voids-loop-typ
invariant-any_voids-loop-typ l =
    list_any (voids_within l.table l.depth) (drop l.typ-index l.types) ≡ list_any (voids_within l.table l.depth) l.types

abbrev pub invariant-any_field_voids-loop-field : goal.invariant-any_field_voids-loop-field
invariant-any_field_voids-loop-field l =
    fields_void (voids_within l.table l.depth) l.indices l.types (drop l.field-index l.fields)
    ≡ fields_void (voids_within l.table l.depth) l.indices l.types l.fields

-- a depth counts four times, so that the calls between two depths count down too
abbrev pub decreases-voids_within : goal.decreases-voids_within
decreases-voids_within l = 4 * l.depth

abbrev pub decreases-voids_of_form : goal.decreases-voids_of_form
decreases-voids_of_form l = 4 * l.depth + 3

abbrev pub decreases-any_voids : goal.decreases-any_voids
decreases-any_voids l = 4 * l.depth + 1

abbrev pub decreases-definition_voids : goal.decreases-definition_voids
decreases-definition_voids l = 4 * l.depth + 2

abbrev pub decreases-any_field_voids : goal.decreases-any_field_voids
decreases-any_field_voids l = 4 * l.depth + 1
