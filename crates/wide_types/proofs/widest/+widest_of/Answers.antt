use Rattle.std.proofs.Common.{ℕ, true, ◌≡◌, ◌+◌, ◌∷◌, drop, map, ap, sym, ◌∙◌, List}
use Rattle.std.proofs.lemmas.List.{drop_more, drop_all}
use Rattle.sail_types.specs.declared.shapes.Shape.{Shape}
use Rattle.value_indices.specs.Walking.{seen, run, got}
use Rattle.wide_types.proofs.ShapeForms as form
use Rattle.wide_types.specs.Widening.{fresh_indices, in_turn, widest_of}
use Rattle.wide_types.proofs.Turns.{gave_got, gave_run, once_got, once_run, twice_got, twice_run, found, left, made_more, walked_more, made_all, walked_all}
use Rattle.sail_types.specs.Sums.{variable, zero_num}
use Rattle.sail_types.specs.declared.numbers.Con.TheVariants as C
use Rattle.sail_types.specs.declared.numbers.Index.{Index}
use Rattle.value_indices.specs.declared.indices.Indices.TheVariants as I
use Rattle.value_indices.specs.declared.indices.Reading.{Reading}
use Rattle.value_indices.specs.declared.indices.Reading.TheVariants as R
use Rattle.value_indices.specs.Steps.{fresh}
use Rattle.wide_types.proofs.widest.+widest_of.Goals as goal

pub widest_of_each-loop-shape-preserved : goal.widest_of_each-loop-shape-preserved
widest_of_each-loop-shape-preserved t c =
    let f = widest_of c.args.types.now in
    let all = c.args.shapes.now in
    let i = c.loop-shape.shape-index in
    let s = c.shape-item.result in
    let walk = λ (ss : List Shape). in_turn (map f ss) in
    let rest : drop i all ≡ s ∷ drop (i + 1) all = drop_more all i s c.loop-shape-test.true ∙ ap (λ x. x ∷ drop (i + 1) all) (sym c.shape-item.is) in
    record {
      value = made_more (f s) (walk (drop (i + 1) all)) (walk (drop i all)) (seen c.loop-shape.walked) (seen c.widest_of.new.walked) c.loop-shape.made
          c.push.new.self c.in_ok-widest_of.field-0 (ap walk rest) c.in_ok-push.ensures.pushed c.in_ok-widest_of.ensures.value
          c.in_ok-widest_of.ensures.walked ∙ c.loop-shape.invariant.value;
      walked = walked_more (f s) (walk (drop (i + 1) all)) (walk (drop i all)) (seen c.loop-shape.walked) (seen c.widest_of.new.walked) (ap walk rest)
          c.in_ok-widest_of.ensures.walked ∙ c.loop-shape.invariant.walked;
    }

pub widest_of_each-returns : goal.widest_of_each-returns
widest_of_each-returns t c =
    let walk = λ (ss : List Shape). in_turn (map (widest_of c.args.types.now) ss) in
    let all = c.args.shapes.now in
    let none = ap walk (drop_all c.loop-shape.shape-index all c.loop-shape-test.false) in
    record {
      value = sym (made_all (walk (drop c.loop-shape.shape-index all)) (seen c.loop-shape.walked) c.loop-shape.made none) ∙ c.loop-shape.invariant.value;
      walked = sym (walked_all (walk (drop c.loop-shape.shape-index all)) (seen c.loop-shape.walked) none) ∙ c.loop-shape.invariant.walked;
    }

pub widest_of-returns-in-Unit : goal.widest_of-returns-in-Unit
widest_of-returns-in-Unit t c =
    let types = c.args.types.now in
    let s = c.args.shape.now in
    let all = widest_of types s in
    let w = seen c.args.walked.now in
    let is = form.widest_unit types s c.in-Unit.is in
    record {
      value = found c.widened_of.result (R.Widened I.Unit) (got all w) c.widened_of.ensures (gave_got all (R.Widened I.Unit) w is);
      walked = left c.widened_of.result w (run all w) (gave_run all (R.Widened I.Unit) w is);
    }

pub widest_of-returns-in-Bool : goal.widest_of-returns-in-Bool
widest_of-returns-in-Bool t c =
    let types = c.args.types.now in
    let s = c.args.shape.now in
    let all = widest_of types s in
    let w = seen c.args.walked.now in
    let is = form.widest_bool types s c.in-Bool.is in
    let made = R.Widened (I.Truth (C.Truth true)) in
    record {
      value = found c.widened_of-in-Bool.result made (got all w) c.widened_of-in-Bool.ensures (gave_got all made w is);
      walked = left c.widened_of-in-Bool.result w (run all w) (gave_run all made w is);
    }

pub widest_of-returns-in-Bit : goal.widest_of-returns-in-Bit
widest_of-returns-in-Bit t c =
    let types = c.args.types.now in
    let s = c.args.shape.now in
    let all = widest_of types s in
    let w = seen c.args.walked.now in
    let is = form.widest_bit types s c.in-Bit.is in
    record {
      value = found c.widened_of-in-Bit.result (R.Widened I.Bit) (got all w) c.widened_of-in-Bit.ensures (gave_got all (R.Widened I.Bit) w is);
      walked = left c.widened_of-in-Bit.result w (run all w) (gave_run all (R.Widened I.Bit) w is);
    }

pub widest_of-returns-in-String : goal.widest_of-returns-in-String
widest_of-returns-in-String t c =
    let types = c.args.types.now in
    let s = c.args.shape.now in
    let all = widest_of types s in
    let w = seen c.args.walked.now in
    let is = form.widest_string types s c.in-String.is in
    record {
      value = found c.widened_of-in-String.result (R.Widened I.String) (got all w) c.widened_of-in-String.ensures (gave_got all (R.Widened I.String) w is);
      walked = left c.widened_of-in-String.result w (run all w) (gave_run all (R.Widened I.String) w is);
    }

pub widest_of-returns-in-Variable : goal.widest_of-returns-in-Variable
widest_of-returns-in-Variable t c =
    let types = c.args.types.now in
    let s = c.args.shape.now in
    let all = widest_of types s in
    let w = seen c.args.walked.now in
    let is = form.widest_variable types s c.in-Variable.position c.in-Variable.is in
    let made = R.Widened (I.Variable c.in-Variable.position) in
    record {
      value = found c.widened_of-in-Variable.result made (got all w) c.widened_of-in-Variable.ensures (gave_got all made w is);
      walked = left c.widened_of-in-Variable.result w (run all w) (gave_run all made w is);
    }

pub widest_of-returns-in-Int : goal.widest_of-returns-in-Int
widest_of-returns-in-Int t c =
    let types = c.args.types.now in
    let s = c.args.shape.now in
    let all = widest_of types s in
    let w = seen c.args.walked.now in
    let is = form.widest_int types s c.in-Int.is in
    let made = R.Widened (I.Integer zero_num) in
    let zero : c.zero_num.result ≡ zero_num = c.zero_num.ensures in
    record {
      value = found c.widened_of-in-Int.result (R.Widened (I.Integer c.zero_num.result)) (got all w) c.widened_of-in-Int.ensures
          (ap (λ z. R.Widened (I.Integer z)) zero ∙ gave_got all made w is);
      walked = left c.widened_of-in-Int.result w (run all w) (gave_run all made w is);
    }

pub widest_of-returns-in-Hole : goal.widest_of-returns-in-Hole
widest_of-returns-in-Hole t c =
    let types = c.args.types.now in
    let s = c.args.shape.now in
    let all = widest_of types s in
    let w = seen c.args.walked.now in
    let is = form.widest_hole types s c.in-Hole.is in
    record { value = gave_got all R.Hole w is; walked = gave_run all R.Hole w is }

pub widest_of-returns-in-Never : goal.widest_of-returns-in-Never
widest_of-returns-in-Never t c =
    let types = c.args.types.now in
    let s = c.args.shape.now in
    let all = widest_of types s in
    let w = seen c.args.walked.now in
    let is = form.widest_never types s c.in-Never.is in
    record { value = gave_got all R.Hole w is; walked = gave_run all R.Hole w is }

pub widest_of-returns-in_ok-width-in-Bits : goal.widest_of-returns-in_ok-width-in-Bits
widest_of-returns-in_ok-width-in-Bits t c =
    let types = c.args.types.now in
    let s = c.args.shape.now in
    let all = widest_of types s in
    let w = seen c.args.walked.now in
    let is = form.widest_bits types s c.in-Bits.is in
    let v = c.in_ok-variable-in-Bits.variable in
    let width : c.in_ok-width-in-Bits.width ≡ variable v = c.in_ok-width-in-Bits.ensures in
    let made = λ (n : ℕ). R.Widened (I.Bits (variable n)) in
    record {
      value = found c.widened_of-in-Bits.result (R.Widened (I.Bits c.in_ok-width-in-Bits.width)) (got all w) c.widened_of-in-Bits.ensures
          (ap (λ n. R.Widened (I.Bits n)) width ∙ once_got fresh made all w v is c.in_ok-variable-in-Bits.ensures.value);
      walked = left c.widened_of-in-Bits.result (seen c.fresh.new.self) (run all w)
          (once_run fresh made all w (seen c.fresh.new.self) is c.in_ok-variable-in-Bits.ensures.walked);
    }

pub widest_of-returns-in_ok-new-in-List : goal.widest_of-returns-in_ok-new-in-List
widest_of-returns-in_ok-new-in-List t c =
    let types = c.args.types.now in
    let s = c.args.shape.now in
    let all = widest_of types s in
    let w = seen c.args.walked.now in
    let inner = c.get.result.now in
    let is = form.widest_list types s c.in-List.item inner c.in-List.is c.get.ensures in
    let boxed : c.in_ok-new-in-List.field-0 ≡ c.in_ok-item-in-List.item = c.in_ok-new-in-List.ensures in
    let made = λ (r : Reading). R.Widened (I.List r) in
    record {
      value = found c.widened_of-in-List.result (R.Widened (I.List c.in_ok-new-in-List.field-0)) (got all w) c.widened_of-in-List.ensures
          (ap made boxed ∙ once_got (widest_of types inner) made all w c.in_ok-item-in-List.item is c.in_ok-item-in-List.ensures.value);
      walked = left c.widened_of-in-List.result (seen c.widest_of.new.walked) (run all w)
          (once_run (widest_of types inner) made all w (seen c.widest_of.new.walked) is c.in_ok-item-in-List.ensures.walked);
    }

pub widest_of-returns-in_ok-new-in-Vector : goal.widest_of-returns-in_ok-new-in-Vector
widest_of-returns-in_ok-new-in-Vector t c =
    let types = c.args.types.now in
    let s = c.args.shape.now in
    let all = widest_of types s in
    let w = seen c.args.walked.now in
    let inner = c.get-in-Vector.result.now in
    let is = form.widest_vector types s c.in-Vector.item inner c.in-Vector.is c.get-in-Vector.ensures in
    let v = c.in_ok-variable-in-Vector.variable in
    let item = c.in_ok-item-in-Vector.item in
    let length : c.in_ok-length-in-Vector.length ≡ variable v = c.in_ok-length-in-Vector.ensures in
    let boxed : c.in_ok-new-in-Vector.field-0 ≡ item = c.in_ok-new-in-Vector.ensures in
    let made = λ (n : ℕ) (r : Reading). R.Widened (I.Vector (variable n) r) in
    let u = seen c.fresh-in-Vector.new.self in
    record {
      value = found c.widened_of-in-Vector.result (R.Widened (I.Vector c.in_ok-length-in-Vector.length c.in_ok-new-in-Vector.field-0)) (got all w)
          c.widened_of-in-Vector.ensures ((λ i. R.Widened (I.Vector (length i) (boxed i)))
          ∙ twice_got fresh (widest_of types inner) made all w u v item is c.in_ok-variable-in-Vector.ensures.value
          c.in_ok-variable-in-Vector.ensures.walked c.in_ok-item-in-Vector.ensures.value);
      walked = left c.widened_of-in-Vector.result (seen c.widest_of-in-Vector.new.walked) (run all w)
          (twice_run fresh (widest_of types inner) made all w u (seen c.widest_of-in-Vector.new.walked) is
          c.in_ok-variable-in-Vector.ensures.walked c.in_ok-item-in-Vector.ensures.walked);
    }

pub widest_of-returns-in_ok-parts-in-Tuple : goal.widest_of-returns-in_ok-parts-in-Tuple
widest_of-returns-in_ok-parts-in-Tuple t c =
    let types = c.args.types.now in
    let s = c.args.shape.now in
    let all = widest_of types s in
    let w = seen c.args.walked.now in
    let parts = c.as_slice.result.now in
    let is = form.widest_tuple types s c.in-Tuple.parts parts c.in-Tuple.is c.as_slice.ensures in
    let first = in_turn (map (widest_of types) parts) in
    record {
      value = once_got first R.Parts all w c.in_ok-parts-in-Tuple.parts is c.in_ok-parts-in-Tuple.ensures.value;
      walked = once_run first R.Parts all w (seen c.widest_of_each.new.walked) is c.in_ok-parts-in-Tuple.ensures.walked;
    }

pub widest_of-returns-in_ok-arguments-in-Named : goal.widest_of-returns-in_ok-arguments-in-Named
widest_of-returns-in_ok-arguments-in-Named t c =
    let types = c.args.types.now in
    let s = c.args.shape.now in
    let all = widest_of types s in
    let w = seen c.args.walked.now in
    let parts = c.as_slice-in-Named.result.now in
    let parameters = c.parameters_of.result.now in
    let is = form.widest_named types s c.in-Named.place c.in-Named.arguments parts parameters c.in-Named.is c.as_slice-in-Named.ensures
    c.parameters_of.ensures in
    let second = in_turn (map (widest_of types) parts) in
    let numbers = c.in_ok-numbers-in-Named.numbers in
    let arguments = c.in_ok-arguments-in-Named.arguments in
    let made = λ (is : List Index) (rs : List Reading). R.Widened (I.Named c.in-Named.place is rs) in
    let u = seen c.fresh_indices.new.walked in
    record {
      value = found c.widened_of-in-Named.result (made numbers arguments) (got all w) c.widened_of-in-Named.ensures
          (twice_got (fresh_indices parameters) second made all w u numbers arguments is c.in_ok-numbers-in-Named.ensures.value
          c.in_ok-numbers-in-Named.ensures.walked c.in_ok-arguments-in-Named.ensures.value);
      walked = left c.widened_of-in-Named.result (seen c.widest_of_each-in-Named.new.walked) (run all w)
          (twice_run (fresh_indices parameters) second made all w u (seen c.widest_of_each-in-Named.new.walked) is
          c.in_ok-numbers-in-Named.ensures.walked c.in_ok-arguments-in-Named.ensures.walked);
    }
