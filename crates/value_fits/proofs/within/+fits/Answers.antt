use Rattle.std.proofs.Common.{◌∙◌, ap, arith, sym}
use Rattle.sail_types.specs.Named.{field_types}
use Rattle.value_indices.specs.declared.indices.Reading.{Reading}
use Rattle.value_fits.specs.Fitting.{argument_fits, each_pair, fields_fit, fits_within, typed_fits, widened_part}
use Rattle.value_fits.proofs.EachPair.{field_more, fields_ended, first_said, pair_more}
use Rattle.value_fits.proofs.within.+fits.Goals as goal

pub fields_fit-loop-field-preserved : goal.fields_fit-loop-field-preserved
fields_fit-loop-field-preserved t c =
    let v = c.args.value.now in
    let w = c.args.wanted.now in
    field_more (fits_within c.args.types.now c.args.depth) c.loop-field.made _ _ c.args.fields.now c.loop-field.field-index _
    v.indices.now v.readings.now w.indices.now w.readings.now (omega arith) c.field-item.is c.in_ok-more.ensures c.in_ok-made.ensures
    ∙ c.loop-field.invariant

pub arguments_fit-loop-index-preserved : goal.arguments_fit-loop-index-preserved
arguments_fit-loop-index-preserved t c =
    pair_more (argument_fits (fits_within c.args.types.now c.args.depth)) c.loop-index.made _ _ c.args.values.now c.args.wanted.now
    c.loop-index.index _ _ (omega arith) (omega arith) c.index-values-index.is c.index-wanted-index.is c.in_ok-more.ensures c.in_ok-made.ensures
    ∙ c.loop-index.invariant

pub parts_fit-loop-index-preserved : goal.parts_fit-loop-index-preserved
parts_fit-loop-index-preserved t c =
    let fit = fits_within c.args.types.now c.args.depth in
    let n = c.loop-index.made.next in
    pair_more fit c.loop-index.made _ _ c.args.values.now c.args.wanted.now c.loop-index.index _ _ (omega arith) (omega arith)
    c.index-values-index.is c.index-wanted-index.is
    (c.in_ok-more.ensures ∙ ap (λ (r : Reading). fit c.index-values-index.result r n) c.lent-part.ensures) c.in_ok-made.ensures
    ∙ c.loop-index.invariant

pub types_fit-loop-index-preserved : goal.types_fit-loop-index-preserved
types_fit-loop-index-preserved t c =
    pair_more (typed_fits (fits_within c.args.types.now c.args.depth) c.args.indices.now c.args.readings.now) c.loop-index.made _ _
    c.args.values.now c.args.wanted.now c.loop-index.index _ _ (omega arith) (omega arith) c.index-values-index.is c.index-wanted-index.is
    c.in_ok-more.ensures c.in_ok-made.ensures
    ∙ c.loop-index.invariant

pub each_widened_fits-loop-index-preserved : goal.each_widened_fits-loop-index-preserved
each_widened_fits-loop-index-preserved t c =
    pair_more (widened_part (fits_within c.args.types.now c.args.depth)) c.loop-index.made _ _ c.args.values.now c.args.wanted.now
    c.loop-index.index _ _ (omega arith) (omega arith) c.index-values-index.is c.index-wanted-index.is c.in_ok-more.ensures c.in_ok-made.ensures
    ∙ c.loop-index.invariant

-- ---- at the start and at the end

pub fields_fit-loop-field-init : goal.fields_fit-loop-field-init
fields_fit-loop-field-init t c =
    let v = c.args.value.now in
    let w = c.args.wanted.now in
    first_said _ c.args.next
    (fields_fit (fits_within c.args.types.now c.args.depth) (field_types c.args.fields.now) v.indices.now v.readings.now w.indices.now w.readings.now)
    c.nothing-made.ensures

pub fields_fit-returns : goal.fields_fit-returns
fields_fit-returns t c =
    let v = c.args.value.now in
    let w = c.args.wanted.now in
    sym (fields_ended (fits_within c.args.types.now c.args.depth) c.loop-field.made c.args.fields.now c.loop-field.field-index
    v.indices.now v.readings.now w.indices.now w.readings.now (omega arith))
    ∙ c.loop-field.invariant

pub arguments_fit-loop-index-init : goal.arguments_fit-loop-index-init
arguments_fit-loop-index-init t c =
    first_said _ c.args.next (each_pair (argument_fits (fits_within c.args.types.now c.args.depth)) c.args.values.now c.args.wanted.now)
    c.nothing-made.ensures

pub parts_fit-loop-index-init : goal.parts_fit-loop-index-init
parts_fit-loop-index-init t c =
    first_said _ c.args.next (each_pair (fits_within c.args.types.now c.args.depth) c.args.values.now c.args.wanted.now) c.nothing-made.ensures

pub types_fit-loop-index-init : goal.types_fit-loop-index-init
types_fit-loop-index-init t c =
    first_said _ c.args.next
    (each_pair (typed_fits (fits_within c.args.types.now c.args.depth) c.args.indices.now c.args.readings.now) c.args.values.now c.args.wanted.now)
    c.nothing-made.ensures

pub each_widened_fits-loop-index-init : goal.each_widened_fits-loop-index-init
each_widened_fits-loop-index-init t c =
    first_said _ c.args.next (each_pair (widened_part (fits_within c.args.types.now c.args.depth)) c.args.values.now c.args.wanted.now)
    c.nothing-made.ensures
