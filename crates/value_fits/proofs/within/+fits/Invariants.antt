use Rattle.std.proofs.Common.{◌≡◌, ◌+◌, ◌*◌, drop}
use Rattle.sail_types.specs.Named.{field_types}
use Rattle.value_fits.specs.Fitting.{also, argument_fits, each_pair, fields_fit, fits_within, typed_fits, widened_part}
use Rattle.value_fits.proofs.within.+fits.Given as goal

abbrev pub invariant-fields_fit-loop-field : goal.invariant-fields_fit-loop-field
invariant-fields_fit-loop-field l =
    also l.made (fields_fit (fits_within l.types l.depth) (field_types (drop l.field-index l.fields)) l.value.indices.now l.value.readings.now
    l.wanted.indices.now l.wanted.readings.now)
    ≡ fields_fit (fits_within l.types l.depth) (field_types l.fields) l.value.indices.now l.value.readings.now
    l.wanted.indices.now l.wanted.readings.now l.next

abbrev pub invariant-arguments_fit-loop-index : goal.invariant-arguments_fit-loop-index
invariant-arguments_fit-loop-index l =
    also l.made (each_pair (argument_fits (fits_within l.types l.depth)) (drop l.index l.values) (drop l.index l.wanted))
    ≡ each_pair (argument_fits (fits_within l.types l.depth)) l.values l.wanted l.next

abbrev pub invariant-parts_fit-loop-index : goal.invariant-parts_fit-loop-index
invariant-parts_fit-loop-index l =
    also l.made (each_pair (fits_within l.types l.depth) (drop l.index l.values) (drop l.index l.wanted))
    ≡ each_pair (fits_within l.types l.depth) l.values l.wanted l.next

abbrev pub invariant-types_fit-loop-index : goal.invariant-types_fit-loop-index
invariant-types_fit-loop-index l =
    also l.made (each_pair (typed_fits (fits_within l.types l.depth) l.indices l.readings) (drop l.index l.values) (drop l.index l.wanted))
    ≡ each_pair (typed_fits (fits_within l.types l.depth) l.indices l.readings) l.values l.wanted l.next

abbrev pub invariant-each_widened_fits-loop-index : goal.invariant-each_widened_fits-loop-index
invariant-each_widened_fits-loop-index l =
    also l.made (each_pair (widened_part (fits_within l.types l.depth)) (drop l.index l.values) (drop l.index l.wanted))
    ≡ each_pair (widened_part (fits_within l.types l.depth)) l.values l.wanted l.next

-- a depth counts nine times, so that the calls between two depths count down too
abbrev pub decreases-fits_within : goal.decreases-fits_within
decreases-fits_within l = 9 * l.depth

abbrev pub decreases-value_fits : goal.decreases-value_fits
decreases-value_fits l = 9 * l.depth + 8

abbrev pub decreases-typ_fits : goal.decreases-typ_fits
decreases-typ_fits l = 9 * l.depth + 7

abbrev pub decreases-widened_fits : goal.decreases-widened_fits
decreases-widened_fits l = 9 * l.depth + 6

abbrev pub decreases-named_form : goal.decreases-named_form
decreases-named_form l = 9 * l.depth + 6

abbrev pub decreases-same_named : goal.decreases-same_named
decreases-same_named l = 9 * l.depth + 5

abbrev pub decreases-named_fits : goal.decreases-named_fits
decreases-named_fits l = 9 * l.depth + 4

abbrev pub decreases-own_fields_fit : goal.decreases-own_fields_fit
decreases-own_fields_fit l = 9 * l.depth + 3

abbrev pub decreases-arguments_fit : goal.decreases-arguments_fit
decreases-arguments_fit l = 9 * l.depth + 3

abbrev pub decreases-fields_fit : goal.decreases-fields_fit
decreases-fields_fit l = 9 * l.depth + 2

abbrev pub decreases-argument_fits : goal.decreases-argument_fits
decreases-argument_fits l = 9 * l.depth + 2

abbrev pub decreases-field_fits : goal.decreases-field_fits
decreases-field_fits l = 9 * l.depth + 1

abbrev pub decreases-item_within : goal.decreases-item_within
decreases-item_within l = 9 * l.depth + 1

abbrev pub decreases-bound_fits : goal.decreases-bound_fits
decreases-bound_fits l = 9 * l.depth + 2

abbrev pub decreases-bound_by : goal.decreases-bound_by
decreases-bound_by l = 9 * l.depth + 1

abbrev pub decreases-variable_fits : goal.decreases-variable_fits
decreases-variable_fits l = 9 * l.depth + 1

abbrev pub decreases-parts_fit : goal.decreases-parts_fit
decreases-parts_fit l = 9 * l.depth + 1

abbrev pub decreases-types_fit : goal.decreases-types_fit
decreases-types_fit l = 9 * l.depth + 1

abbrev pub decreases-each_widened_fits : goal.decreases-each_widened_fits
decreases-each_widened_fits l = 9 * l.depth + 1
