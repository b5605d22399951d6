use Rattle.std.proofs.Common.{◌≡◌, ◌+◌, ◌∷◌, drop, map, ap, sym, ◌∙◌, List, false, slice_get, []}
use Rattle.std.proofs.lemmas.List.{drop_more, drop_all}
use Rattle.value_indices.specs.declared.indices.Indices.{Indices}
use Rattle.value_indices.specs.declared.indices.Indices.TheVariants as I
use Rattle.value_indices.specs.declared.indices.Reading.{Reading}
use Rattle.value_indices.specs.declared.indices.Reading.TheVariants as R
use Rattle.value_indices.specs.Steps.{Walk}
use Rattle.value_indices.specs.Walking.{seen, run, got}
use Rattle.wide_types.specs.Widening.{each_kept, item_shape, kept_each, kept_integer, kept_num, kept_truth, kept_type, kept_value, opened_or_not}
use Rattle.wide_types.specs.Widening.{shape_or_hole, wide_typ, widest_of}
use Rattle.wide_types.proofs.Turns.{found, gave_got, gave_run, kept_more, left_as, made_all, made_more, once_got, once_run, twice_got, twice_run}
use Rattle.wide_types.proofs.Turns.{walked_all, walked_more}
use Rattle.wide_types.proofs.ValueForms as form
use Rattle.wide_types.proofs.kept.+keep.Goals as goal

pub kept_value-returns-in-Never : goal.kept_value-returns-in-Never
kept_value-returns-in-Never t c =
    let types = c.args.types.now in
    let m = c.args.before in
    let i = c.args.indices.now in
    let opens = c.args.opens in
    let s = c.args.shape.now in
    let all = kept_value types m i opens s in
    let w = seen c.args.walked.now in
    let is = form.value_never types m i opens s c.in-Never.is in
    record { value = gave_got all I.Never w is; walked = gave_run all I.Never w is }

pub kept_value-returns-in-Unit : goal.kept_value-returns-in-Unit
kept_value-returns-in-Unit t c =
    let types = c.args.types.now in
    let m = c.args.before in
    let i = c.args.indices.now in
    let opens = c.args.opens in
    let s = c.args.shape.now in
    let all = kept_value types m i opens s in
    let w = seen c.args.walked.now in
    let is = form.value_unit types m i opens s c.in-Unit.is in
    record { value = gave_got all I.Unit w is; walked = gave_run all I.Unit w is }

pub kept_value-returns-in-Truth : goal.kept_value-returns-in-Truth
kept_value-returns-in-Truth t c =
    let types = c.args.types.now in
    let m = c.args.before in
    let i = c.args.indices.now in
    let opens = c.args.opens in
    let s = c.args.shape.now in
    let all = kept_value types m i opens s in
    let w = seen c.args.walked.now in
    let is = form.value_truth types m i _ opens s c.in-Truth.is in
    record {
      value = found c.kept_truth.result (got (kept_truth opens) w) (got all w) c.kept_truth.ensures.value (ap (λ (k : Walk Indices). got k w) (sym is));
      walked = left_as c.kept_truth.result (seen c.kept_truth.new.walked) (run (kept_truth opens) w) (run all w) c.kept_truth.ensures.walked
          (ap (λ (k : Walk Indices). run k w) (sym is));
    }

pub kept_value-returns-in-Bit : goal.kept_value-returns-in-Bit
kept_value-returns-in-Bit t c =
    let types = c.args.types.now in
    let m = c.args.before in
    let i = c.args.indices.now in
    let opens = c.args.opens in
    let s = c.args.shape.now in
    let all = kept_value types m i opens s in
    let w = seen c.args.walked.now in
    let is = form.value_bit types m i opens s c.in-Bit.is in
    record { value = gave_got all I.Bit w is; walked = gave_run all I.Bit w is }

pub kept_value-returns-in_ok-width-in-Bits : goal.kept_value-returns-in_ok-width-in-Bits
kept_value-returns-in_ok-width-in-Bits t c =
    let types = c.args.types.now in
    let m = c.args.before in
    let i = c.args.indices.now in
    let opens = c.args.opens in
    let s = c.args.shape.now in
    let all = kept_value types m i opens s in
    let w = seen c.args.walked.now in
    let is = form.value_bits types m i c.in-Bits.width opens s c.in-Bits.is in
    record {
      value = once_got (kept_num m c.in-Bits.width) I.Bits all w c.in_ok-width-in-Bits.width is c.in_ok-width-in-Bits.ensures.value;
      walked = once_run (kept_num m c.in-Bits.width) I.Bits all w (seen c.kept_num.new.walked) is c.in_ok-width-in-Bits.ensures.walked;
    }

pub kept_value-returns-in-Integer : goal.kept_value-returns-in-Integer
kept_value-returns-in-Integer t c =
    let types = c.args.types.now in
    let m = c.args.before in
    let i = c.args.indices.now in
    let opens = c.args.opens in
    let s = c.args.shape.now in
    let all = kept_value types m i opens s in
    let w = seen c.args.walked.now in
    let is = form.value_integer types m i _ opens s c.in-Integer.is in
    record {
      value = found c.kept_integer.result (got (kept_integer opens) w) (got all w) c.kept_integer.ensures.value (ap (λ (k : Walk Indices). got k w) (sym is));
      walked = left_as c.kept_integer.result (seen c.kept_integer.new.walked) (run (kept_integer opens) w) (run all w) c.kept_integer.ensures.walked
          (ap (λ (k : Walk Indices). run k w) (sym is));
    }

pub kept_value-returns-in-String : goal.kept_value-returns-in-String
kept_value-returns-in-String t c =
    let types = c.args.types.now in
    let m = c.args.before in
    let i = c.args.indices.now in
    let opens = c.args.opens in
    let s = c.args.shape.now in
    let all = kept_value types m i opens s in
    let w = seen c.args.walked.now in
    let is = form.value_string types m i opens s c.in-String.is in
    record { value = gave_got all I.String w is; walked = gave_run all I.String w is }

pub kept_value-returns-in_ok-new-in-List : goal.kept_value-returns-in_ok-new-in-List
kept_value-returns-in_ok-new-in-List t c =
    let types = c.args.types.now in
    let m = c.args.before in
    let i = c.args.indices.now in
    let opens = c.args.opens in
    let s = c.args.shape.now in
    let all = kept_value types m i opens s in
    let w = seen c.args.walked.now in
    let inner = c.get.result.now in
    let is = form.value_list types m i c.in-List.item inner opens s c.in-List.is c.get.ensures in
    let boxed : c.in_ok-new-in-List.field-0 ≡ c.in_ok-item-in-List.item = c.in_ok-new-in-List.ensures in
    record {
      value = ap I.List boxed
          ∙ once_got (kept_type types m inner (item_shape s)) I.List all w c.in_ok-item-in-List.item is c.in_ok-item-in-List.ensures.value;
      walked = once_run (kept_type types m inner (item_shape s)) I.List all w (seen c.kept_item.new.walked) is c.in_ok-item-in-List.ensures.walked;
    }

pub kept_value-returns-in_ok-new-in-Vector : goal.kept_value-returns-in_ok-new-in-Vector
kept_value-returns-in_ok-new-in-Vector t c =
    let types = c.args.types.now in
    let m = c.args.before in
    let i = c.args.indices.now in
    let opens = c.args.opens in
    let s = c.args.shape.now in
    let all = kept_value types m i opens s in
    let w = seen c.args.walked.now in
    let n = c.in-Vector.length in
    let inner = c.get-in-Vector.result.now in
    let is = form.value_vector types m i n c.in-Vector.item inner opens s c.in-Vector.is c.get-in-Vector.ensures in
    let boxed : c.in_ok-new-in-Vector.field-0 ≡ c.in_ok-item-in-Vector.item = c.in_ok-new-in-Vector.ensures in
    record {
      value = ap (I.Vector c.in_ok-length-in-Vector.length) boxed
          ∙ twice_got (kept_num m n) (kept_type types m inner (item_shape s)) I.Vector all w (seen c.kept_num-in-Vector.new.walked)
          c.in_ok-length-in-Vector.length c.in_ok-item-in-Vector.item is c.in_ok-length-in-Vector.ensures.value c.in_ok-length-in-Vector.ensures.walked
          c.in_ok-item-in-Vector.ensures.value;
      walked = twice_run (kept_num m n) (kept_type types m inner (item_shape s)) I.Vector all w (seen c.kept_num-in-Vector.new.walked)
          (seen c.kept_item-in-Vector.new.walked) is c.in_ok-length-in-Vector.ensures.walked c.in_ok-item-in-Vector.ensures.walked;
    }

pub kept_value-returns-in_ok-parts-in-Tuple : goal.kept_value-returns-in_ok-parts-in-Tuple
kept_value-returns-in_ok-parts-in-Tuple t c =
    let types = c.args.types.now in
    let m = c.args.before in
    let i = c.args.indices.now in
    let opens = c.args.opens in
    let s = c.args.shape.now in
    let all = kept_value types m i opens s in
    let w = seen c.args.walked.now in
    let parts = c.as_slice.result.now in
    let shapes = c.part_shapes-shapes.result.now in
    let is = form.value_tuple types m i c.in-Tuple.parts parts shapes opens s c.in-Tuple.is c.as_slice.ensures c.part_shapes-shapes.ensures in
    let first = each_kept (opened_or_not opens (map (kept_value types m) parts)) shapes in
    record {
      value = once_got first I.Tuple all w c.in_ok-parts-in-Tuple.parts is c.in_ok-parts-in-Tuple.ensures.value;
      walked = once_run first I.Tuple all w (seen c.kept_parts.new.walked) is c.in_ok-parts-in-Tuple.ensures.walked;
    }

pub kept_value-returns-in_ok-arguments-in-Named : goal.kept_value-returns-in_ok-arguments-in-Named
kept_value-returns-in_ok-arguments-in-Named t c =
    let types = c.args.types.now in
    let m = c.args.before in
    let i = c.args.indices.now in
    let opens = c.args.opens in
    let s = c.args.shape.now in
    let all = kept_value types m i opens s in
    let w = seen c.args.walked.now in
    let u = c.in-Named.place in
    let numbers = c.as_slice-in-Named.result.now in
    let arguments = c.as_slice-in-Named-2.result.now in
    let shapes = c.part_shapes-shapes-in-Named.result.now in
    let is = form.value_named types m i u c.in-Named.numbers numbers c.in-Named.arguments arguments shapes opens s c.in-Named.is
    c.as_slice-in-Named.ensures c.as_slice-in-Named-2.ensures c.part_shapes-shapes-in-Named.ensures in
    let second = each_kept (map (kept_type types m) arguments) shapes in
    record {
      value = twice_got (kept_each m numbers) second (I.Named u) all w (seen c.kept_each.new.walked) c.in_ok-numbers-in-Named.numbers
          c.in_ok-arguments-in-Named.arguments is c.in_ok-numbers-in-Named.ensures.value c.in_ok-numbers-in-Named.ensures.walked
          c.in_ok-arguments-in-Named.ensures.value;
      walked = twice_run (kept_each m numbers) second (I.Named u) all w (seen c.kept_each.new.walked) (seen c.kept_types.new.walked) is
          c.in_ok-numbers-in-Named.ensures.walked c.in_ok-arguments-in-Named.ensures.walked;
    }

pub kept_value-returns-in-Variable : goal.kept_value-returns-in-Variable
kept_value-returns-in-Variable t c =
    let types = c.args.types.now in
    let m = c.args.before in
    let i = c.args.indices.now in
    let opens = c.args.opens in
    let s = c.args.shape.now in
    let all = kept_value types m i opens s in
    let w = seen c.args.walked.now in
    let is = form.value_variable types m i c.in-Variable.position opens s c.in-Variable.is in
    record { value = gave_got all (I.Variable c.in-Variable.position) w is; walked = gave_run all (I.Variable c.in-Variable.position) w is }

pub kept_type-returns-in_ok-arguments-in-Of : goal.kept_type-returns-in_ok-arguments-in-Of
kept_type-returns-in_ok-arguments-in-Of t c =
    let types = c.args.types.now in
    let m = c.args.before in
    let r = c.args.reading.now in
    let s = c.args.shape.now in
    let all = kept_type types m r s in
    let w = seen c.args.walked.now in
    let numbers = c.as_slice.result.now in
    let arguments = c.as_slice-in-Of.result.now in
    let shapes = c.as_slice-in-Of-2.result.now in
    let is = form.type_of types m r c.in-Of.typ c.in-Of.numbers numbers c.in-Of.arguments arguments shapes c.len.result s c.in-Of.is c.as_slice.ensures
    c.as_slice-in-Of.ensures (c.as_slice-in-Of-2.ensures ∙ c.in_ok-shapes-in-Of.ensures) c.len.ensures in
    let second = each_kept (map (kept_type types m) arguments) shapes in
    let typ : c.in_ok-made-in-Of.made ≡ wide_typ c.in-Of.typ = c.in_ok-made-in-Of.ensures in
    let made = R.Of (wide_typ c.in-Of.typ) in
    record {
      value = ap (λ y. R.Of y c.in_ok-numbers-in-Of.numbers c.in_ok-arguments-in-Of.arguments) typ
          ∙ twice_got (kept_each m numbers) second made all w (seen c.kept_each.new.walked) c.in_ok-numbers-in-Of.numbers
          c.in_ok-arguments-in-Of.arguments is c.in_ok-numbers-in-Of.ensures.value c.in_ok-numbers-in-Of.ensures.walked
          c.in_ok-arguments-in-Of.ensures.value;
      walked = twice_run (kept_each m numbers) second made all w (seen c.kept_each.new.walked) (seen c.kept_types.new.walked) is
          c.in_ok-numbers-in-Of.ensures.walked c.in_ok-arguments-in-Of.ensures.walked;
    }

pub kept_type-returns-in_ok-new-in-Widened : goal.kept_type-returns-in_ok-new-in-Widened
kept_type-returns-in_ok-new-in-Widened t c =
    let types = c.args.types.now in
    let m = c.args.before in
    let r = c.args.reading.now in
    let s = c.args.shape.now in
    let all = kept_type types m r s in
    let w = seen c.args.walked.now in
    let inner = c.get.result.now in
    let is = form.type_widened types m r c.in-Widened.indices inner s c.in-Widened.is c.get.ensures in
    let first = kept_value types m inner false s in
    let boxed : c.in_ok-new-in-Widened.field-0 ≡ c.in_ok-indices-in-Widened.indices = c.in_ok-new-in-Widened.ensures in
    record {
      value = ap R.Widened boxed ∙ once_got first R.Widened all w c.in_ok-indices-in-Widened.indices is c.in_ok-indices-in-Widened.ensures.value;
      walked = once_run first R.Widened all w (seen c.kept_value.new.walked) is c.in_ok-indices-in-Widened.ensures.walked;
    }

pub kept_type-returns-in_ok-parts-in-Parts : goal.kept_type-returns-in_ok-parts-in-Parts
kept_type-returns-in_ok-parts-in-Parts t c =
    let types = c.args.types.now in
    let m = c.args.before in
    let r = c.args.reading.now in
    let s = c.args.shape.now in
    let all = kept_type types m r s in
    let w = seen c.args.walked.now in
    let parts = c.as_slice-in-Parts.result.now in
    let shapes = c.part_shapes-shapes.result.now in
    let is = form.type_parts types m r c.in-Parts.parts parts shapes s c.in-Parts.is c.as_slice-in-Parts.ensures c.part_shapes-shapes.ensures in
    let first = each_kept (map (kept_type types m) parts) shapes in
    record {
      value = once_got first R.Parts all w c.in_ok-parts-in-Parts.parts is c.in_ok-parts-in-Parts.ensures.value;
      walked = once_run first R.Parts all w (seen c.kept_types-in-Parts.new.walked) is c.in_ok-parts-in-Parts.ensures.walked;
    }

pub kept_type-returns-in-Hole : goal.kept_type-returns-in-Hole
kept_type-returns-in-Hole t c =
    let types = c.args.types.now in
    let m = c.args.before in
    let r = c.args.reading.now in
    let s = c.args.shape.now in
    let all = kept_type types m r s in
    let w = seen c.args.walked.now in
    let is = form.type_hole types m r s c.in-Hole.is in
    record {
      value = found c.widest_of.result (got (widest_of types s) w) (got all w) c.widest_of.ensures.value (ap (λ (k : Walk Reading). got k w) (sym is));
      walked = left_as c.widest_of.result (seen c.widest_of.new.walked) (run (widest_of types s) w) (run all w) c.widest_of.ensures.walked
          (ap (λ (k : Walk Reading). run k w) (sym is));
    }

pub kept_parts-loop-index-preserved : goal.kept_parts-loop-index-preserved
kept_parts-loop-index-preserved t c =
    let f = kept_value c.args.types.now c.args.before in
    let among = λ (xs : List Indices). opened_or_not c.args.opens (map f xs) in
    let all = c.args.parts.now in
    let shapes = c.args.shapes.now in
    let i = c.loop-index.index in
    let x = c.index-parts-index.result in
    let rest : drop i all ≡ x ∷ drop (i + 1) all = drop_more all i x c.loop-index-test.true ∙ ap (λ y. y ∷ drop (i + 1) all) (sym c.index-parts-index.is) in
    let first = f x c.args.opens (shape_or_hole (slice_get shapes i)) in
    let others = each_kept (among (drop (i + 1) all)) (drop (i + 1) shapes) in
    let is = ap (λ (xs : List Indices). each_kept (among xs) (drop i shapes)) rest ∙ kept_more (f x c.args.opens) (among (drop (i + 1) all)) i shapes in
    record {
      value = made_more first others (each_kept (among (drop i all)) (drop i shapes)) (seen c.loop-index.walked) (seen c.kept_part.new.walked)
          c.loop-index.made c.push.new.self c.in_ok-kept_part.field-0 is c.in_ok-push.ensures.pushed c.in_ok-kept_part.ensures.value
          c.in_ok-kept_part.ensures.walked ∙ c.loop-index.invariant.value;
      walked = walked_more first others (each_kept (among (drop i all)) (drop i shapes)) (seen c.loop-index.walked) (seen c.kept_part.new.walked) is
          c.in_ok-kept_part.ensures.walked ∙ c.loop-index.invariant.walked;
    }

pub kept_parts-returns : goal.kept_parts-returns
kept_parts-returns t c =
    let f = kept_value c.args.types.now c.args.before in
    let among = λ (xs : List Indices). opened_or_not c.args.opens (map f xs) in
    let all = c.args.parts.now in
    let i = c.loop-index.index in
    let shapes = drop i c.args.shapes.now in
    let rest = each_kept (among (drop i all)) shapes in
    let is = ap (λ (xs : List Indices). each_kept (among xs) shapes) (drop_all i all c.loop-index-test.false) in
    record {
      value = sym (made_all rest (seen c.loop-index.walked) c.loop-index.made is) ∙ c.loop-index.invariant.value;
      walked = sym (walked_all rest (seen c.loop-index.walked) is) ∙ c.loop-index.invariant.walked;
    }

pub kept_types-loop-index-preserved : goal.kept_types-loop-index-preserved
kept_types-loop-index-preserved t c =
    let f = kept_type c.args.types.now c.args.before in
    let all = c.args.readings.now in
    let shapes = c.args.shapes.now in
    let i = c.loop-index.index in
    let x = c.index-readings-index.result in
    let rest : drop i all ≡ x ∷ drop (i + 1) all = drop_more all i x c.loop-index-test.true ∙ ap (λ y. y ∷ drop (i + 1) all) (sym c.index-readings-index.is) in
    let first = f x (shape_or_hole (slice_get shapes i)) in
    let others = each_kept (map f (drop (i + 1) all)) (drop (i + 1) shapes) in
    let is = ap (λ (xs : List Reading). each_kept (map f xs) (drop i shapes)) rest ∙ kept_more (f x) (map f (drop (i + 1) all)) i shapes in
    record {
      value = made_more first others (each_kept (map f (drop i all)) (drop i shapes)) (seen c.loop-index.walked) (seen c.kept_argument.new.walked)
          c.loop-index.made c.push.new.self c.in_ok-kept_argument.field-0 is c.in_ok-push.ensures.pushed c.in_ok-kept_argument.ensures.value
          c.in_ok-kept_argument.ensures.walked ∙ c.loop-index.invariant.value;
      walked = walked_more first others (each_kept (map f (drop i all)) (drop i shapes)) (seen c.loop-index.walked) (seen c.kept_argument.new.walked) is
          c.in_ok-kept_argument.ensures.walked ∙ c.loop-index.invariant.walked;
    }

pub kept_types-returns : goal.kept_types-returns
kept_types-returns t c =
    let f = kept_type c.args.types.now c.args.before in
    let all = c.args.readings.now in
    let i = c.loop-index.index in
    let shapes = drop i c.args.shapes.now in
    let rest = each_kept (map f (drop i all)) shapes in
    let is = ap (λ (xs : List Reading). each_kept (map f xs) shapes) (drop_all i all c.loop-index-test.false) in
    record {
      value = sym (made_all rest (seen c.loop-index.walked) c.loop-index.made is) ∙ c.loop-index.invariant.value;
      walked = sym (walked_all rest (seen c.loop-index.walked) is) ∙ c.loop-index.invariant.walked;
    }
