use Rattle.std.proofs.Common.{◌≡◌, ◌∙◌, ◌+◌, ◌*◌, [], ◌∷◌, ap, arith, map, sym}
use Rattle.value_indices.specs.Steps.{Walk, give}
use Rattle.value_indices.specs.Walking.{got, run, seen}
use Rattle.value_indices.specs.declared.indices.Indices.{Indices}
use Rattle.value_indices.specs.declared.indices.Indices.TheOpen.{Indices-F}
use Rattle.value_indices.specs.declared.indices.Indices.TheVariants as I
use Rattle.value_indices.specs.declared.indices.Reading.{Reading}
use Rattle.value_indices.proofs.Walks.{got_bind, got_give, run_bind, run_give}
use Rattle.value_fits.specs.Fitting.{says}
use Rattle.wide_types.proofs.Turns.{gave_got, gave_run, left_as, once_got, once_run}
use Rattle.pattern_leaves.specs.Settings.{around_of}
use Rattle.pattern_leaves.proofs.Opened.{out_never}
use Rattle.call_notes.specs.Ends.{fits_unless, wrong_value}
use Rattle.expression_forms.specs.Nodes.{put}
use Rattle.expression_forms.specs.Spots.{Spot, Wrote, call_written, late_put, left_of, rewritten, spot_of, tuple_write, wrong_write}
use Rattle.expression_forms.specs.Spots.{wrote, wrote_of}
use Rattle.expression_forms.proofs.SpotForms.{call_is, late_is, named_is, no_tuple, tuple_written, wrong_is, wrote_as, wrote_in}
use Rattle.expression_forms.proofs.SpotMasses.{one_spot, spot_mass, spot_masses, tuple_opens}
use Rattle.expression_forms.proofs.Tuples.{all_written, even_end, scoped_value, scoped_walked, uneven_end, written_got, written_run}
use Rattle.expression_forms.proofs.spots.+spot_write.Goals as goal

-- ---- there is less of what is called

pub Spot::write-write_tuple-requires : goal.Spot::write-write_tuple-requires
Spot::write-write_tuple-requires t c =
    let opens = tuple_opens c.args.self.now c.in-Tuple.place c.in-Tuple.field-1 c.in-Tuple.spots c.as_slice-in-Tuple.result.now c.in-Tuple.is
    c.as_slice-in-Tuple.ensures in
    let measure : 2 * spot_mass c.args.self.now ≡ t = c.decreases in
    (omega (arith, opens, measure), tt)

pub write_each-write-requires : goal.write_each-write-requires
write_each-write-requires t c =
    let one = one_spot c.args.spots.now c.loop-index.index c.index-spots-index.result (omega arith) c.index-spots-index.is in
    let measure : 2 * spot_masses c.args.spots.now + 4 ≡ t = c.decreases in
    (omega (arith, one, measure), tt)

-- ---- one spot

pub Spot::write-returns-in-Wrong-clause-value : goal.Spot::write-returns-in-Wrong-clause-value
Spot::write-returns-in-Wrong-clause-value t c =
    let around = around_of c.args.around.now in
    let w = seen c.args.walking.now in
    let is = wrong_is around c.args.self.now c.in-Wrong.place c.in-Wrong.is in
    wrote_in c.wrong_write.result around (λ a. got (wrong_write c.in-Wrong.place) w) _ c.wrong_write.ensures.value
    (sym (ap (λ (s : Spot). got (s.write c.args.is_nested c.args.value.now) w) is))

pub Spot::write-returns-in-Named-clause-value : goal.Spot::write-returns-in-Named-clause-value
Spot::write-returns-in-Named-clause-value t c =
    let around = around_of c.args.around.now in
    let w = seen c.args.walking.now in
    let n = c.args.is_nested in
    let i = c.args.value.now in
    let r = c.in-Named.reading in
    let k = c.in-Named.number in
    let is = named_is around c.args.self.now c.in-Named.field-0 k c.in-Named.field-2 r c.in-Named.is in
    let puts = put k (i ∷ []) r i in
    let y = wrote (fits_unless n around i r) I.Unit in
    wrote_in c.write_named.result around (λ a. wrote (fits_unless n a i r) I.Unit) _ c.write_named.ensures.value
    (sym (ap (λ (s : Spot). got (s.write n i) w) is ∙ got_bind puts (λ t. give y) w ∙ got_give y (run puts w)))

pub Spot::write-returns-in-Named-clause-walked : goal.Spot::write-returns-in-Named-clause-walked
Spot::write-returns-in-Named-clause-walked t c =
    let around = around_of c.args.around.now in
    let w = seen c.args.walking.now in
    let n = c.args.is_nested in
    let i = c.args.value.now in
    let r = c.in-Named.reading in
    let k = c.in-Named.number in
    let is = named_is around c.args.self.now c.in-Named.field-0 k c.in-Named.field-2 r c.in-Named.is in
    let puts = put k (i ∷ []) r i in
    let y = wrote (fits_unless n around i r) I.Unit in
    left_as c.write_named.result (seen c.write_named.new.walking) _ _ c.write_named.ensures.walked
    (sym (ap (λ (s : Spot). run (s.write n i) w) is ∙ run_bind puts (λ t. give y) w ∙ run_give y (run puts w)))

pub Spot::write-returns-in_ok-answer-in-Call-clause-value : goal.Spot::write-returns-in_ok-answer-in-Call-clause-value
Spot::write-returns-in_ok-answer-in-Call-clause-value t c =
    let around = around_of c.args.around.now in
    let n = c.args.is_nested in
    let i = c.args.value.now in
    let bs = c.as_slice.result.now in
    let is = c.as_slice-in-Call.result.now in
    let whole = call_is around c.args.self.now c.in-Call.place c.in-Call.number c.in-Call.field-2 c.in-Call.writer c.in-Call.nested bs
    c.in-Call.arguments is c.in-Call.is c.as_slice.ensures c.as_slice-in-Call.ensures in
    c.gives.ensures around
    ∙ once_got (call_written around c.in-Call.place c.in-Call.number c.in-Call.writer bs is n i) (λ (answer : Indices). wrote (says []) answer)
    ((spot_of around c.args.self.now).write n i) (seen c.args.walking.now) c.in_ok-answer-in-Call.answer (ap (λ (s : Spot). s.write n i) whole)
    c.in_ok-answer-in-Call.ensures.value

pub Spot::write-returns-in_ok-answer-in-Call-clause-walked : goal.Spot::write-returns-in_ok-answer-in-Call-clause-walked
Spot::write-returns-in_ok-answer-in-Call-clause-walked t c =
    let around = around_of c.args.around.now in
    let n = c.args.is_nested in
    let i = c.args.value.now in
    let bs = c.as_slice.result.now in
    let is = c.as_slice-in-Call.result.now in
    let whole = call_is around c.args.self.now c.in-Call.place c.in-Call.number c.in-Call.field-2 c.in-Call.writer c.in-Call.nested bs
    c.in-Call.arguments is c.in-Call.is c.as_slice.ensures c.as_slice-in-Call.ensures in
    once_run (call_written around c.in-Call.place c.in-Call.number c.in-Call.writer bs is n i) (λ (answer : Indices). wrote (says []) answer)
    ((spot_of around c.args.self.now).write n i) (seen c.args.walking.now) (seen c.write_call.new.walking) (ap (λ (s : Spot). s.write n i) whole)
    c.in_ok-answer-in-Call.ensures.walked

-- of a part of what is there late
pub Spot::write-returns-in-Late-clause-value : goal.Spot::write-returns-in-Late-clause-value
Spot::write-returns-in-Late-clause-value t c =
    let around = around_of c.args.around.now in
    let n = c.args.is_nested in
    let i = c.args.value.now in
    let w = seen c.args.walking.now in
    let held = c.in-Late.held in
    let is = late_is around c.args.self.now c.in-Late.place c.in-Late.number c.in-Late.base held c.in-Late.reached c.in-Late.known c.in-Late.is in
    wrote_as c.put_late.result around _ _ c.put_late.ensures.value
    ((λ j. got (late_put around c.in-Late.place c.in-Late.number c.in-Late.reached c.in-Late.known
    (rewritten (spot_of around (c.get-in-Late.ensures j)) held) n i) w) ∙ sym (ap (λ (s : Spot). got (s.write n i) w) is))

pub Spot::write-returns-in-Late-clause-walked : goal.Spot::write-returns-in-Late-clause-walked
Spot::write-returns-in-Late-clause-walked t c =
    let around = around_of c.args.around.now in
    let n = c.args.is_nested in
    let i = c.args.value.now in
    let w = seen c.args.walking.now in
    let held = c.in-Late.held in
    let is = late_is around c.args.self.now c.in-Late.place c.in-Late.number c.in-Late.base held c.in-Late.reached c.in-Late.known c.in-Late.is in
    left_as c.put_late.result (seen c.put_late.new.walking) _ _ c.put_late.ensures.walked
    ((λ j. run (late_put around c.in-Late.place c.in-Late.number c.in-Late.reached c.in-Late.known
    (rewritten (spot_of around (c.get-in-Late.ensures j)) held) n i) w) ∙ sym (ap (λ (s : Spot). run (s.write n i) w) is))

-- ---- several

pub write_each-loop-index-preserved : goal.write_each-loop-index-preserved
write_each-loop-index-preserved t c =
    let around = around_of c.args.around.now in
    let l = c.loop-index in
    let s = c.index-spots-index.result in
    let i = c.index-values-index.result in
    let inner = (spot_of around s).write c.args.is_nested i in
    let a = wrote_of around c.in_ok-wrote.wrote in
    let w = seen l.walking in
    let begun = seen c.remember.new.self in
    let ended = c.in_ok-wrote.ensures in
    let was = scoped_walked inner w begun (seen c.write.new.walking) (seen c.restore.new.self) c.in_ok-remember.ensures ended.walked
    c.in_ok-restore.ensures in
    record {
      value = written_got around c.args.place c.args.is_nested c.args.spots.now c.args.values.now l.index s i (omega arith) (omega arith)
          c.index-spots-index.is c.index-values-index.is w (seen c.restore.new.self) was l.lefts c.push.new.self c.into_left.result
          a c.in_ok-push.ensures.pushed (c.into_left.ensures around) (scoped_value inner w begun a c.in_ok-remember.ensures ended.value)
          ∙ l.invariant.value;
      walked = written_run around c.args.place c.args.is_nested c.args.spots.now c.args.values.now l.index s i (omega arith) (omega arith)
          c.index-spots-index.is c.index-values-index.is w (seen c.restore.new.self) was ∙ l.invariant.walked;
    }

-- as many values as targets
pub write_each-returns-then-spots-values-clause-value : goal.write_each-returns-then-spots-values-clause-value
write_each-returns-then-spots-values-clause-value t c =
    let around = around_of c.args.around.now in
    let l = c.loop-index in
    let ends = even_end around c.args.place c.args.is_nested c.args.spots.now c.args.values.now l.index (omega arith) (omega arith) in
    c.of_each.ensures around
    ∙ all_written (map (left_of around) l.lefts) I.Unit _ _ (gave_got _ (wrote (says []) I.Unit) (seen l.walking) ends) l.invariant.value

pub write_each-returns-then-spots-values-clause-walked : goal.write_each-returns-then-spots-values-clause-walked
write_each-returns-then-spots-values-clause-walked t c =
    let l = c.loop-index in
    let ends = even_end (around_of c.args.around.now) c.args.place c.args.is_nested c.args.spots.now c.args.values.now l.index (omega arith) (omega arith) in
    gave_run _ (wrote (says []) I.Unit) (seen l.walking) ends ∙ l.invariant.walked

-- more of either
pub write_each-returns-clause-value : goal.write_each-returns-clause-value
write_each-returns-clause-value t c =
    let around = around_of c.args.around.now in
    let place = c.args.place in
    let l = c.loop-index in
    let ends = uneven_end around place c.args.is_nested c.args.spots.now c.args.values.now l.index (omega arith)
    (λ same. c.if-spots-values.false (omega (arith, same))) in
    let answer = c.in_ok-answer.answer in
    c.of_each-2.ensures around
    ∙ all_written (map (left_of around) l.lefts) answer _ _
    (once_got (wrong_value place) (λ (i : Indices). wrote (says []) i) _ (seen l.walking) answer ends c.in_ok-answer.ensures.value) l.invariant.value

pub write_each-returns-clause-walked : goal.write_each-returns-clause-walked
write_each-returns-clause-walked t c =
    let place = c.args.place in
    let l = c.loop-index in
    let ends = uneven_end (around_of c.args.around.now) place c.args.is_nested c.args.spots.now c.args.values.now l.index (omega arith)
    (λ same. c.if-spots-values.false (omega (arith, same))) in
    once_run (wrong_value place) (λ (i : Indices). wrote (says []) i) _ (seen l.walking) (seen c.wrong_value.new.walking) ends
    c.in_ok-answer.ensures.walked ∙ l.invariant.walked

-- each part of a tuple
pub write_tuple-returns-in_ok-nested-in-Tuple : goal.write_tuple-returns-in_ok-nested-in-Tuple
write_tuple-returns-in_ok-nested-in-Tuple t c =
    let around = around_of c.args.around.now in
    let spots = map (spot_of around) c.args.spots.now in
    let w = seen c.args.walking.now in
    let is = tuple_written c.args.place spots c.args.is_nested c.in_ok-nested-in-Tuple.nested c.in_ok-nested-in-Tuple.ensures c.args.value.now c.in-Tuple.values
    c.as_slice-values.result.now c.in-Tuple.is c.as_slice-values.ensures in
    record {
      value = wrote_as c.write_each.result around _ _ c.write_each.ensures.value (ap (λ (a : Walk Wrote). got a w) is);
      walked = left_as c.write_each.result (seen c.write_each.new.walking) _ _ c.write_each.ensures.walked (ap (λ (a : Walk Wrote). run a w) is);
    }

pub write_tuple-returns-in-Never-clause-value : goal.write_tuple-returns-in-Never-clause-value
write_tuple-returns-in-Never-clause-value t c =
    let around = around_of c.args.around.now in
    let w = seen c.args.walking.now in
    let spots = map (spot_of around) c.args.spots.now in
    c.gives.ensures around
    ∙ sym (ap (λ (f : Indices-F Indices Reading). got (tuple_write c.args.place spots c.args.is_nested f) w) (out_never c.args.value.now c.in-Never.is)
    ∙ got_give (wrote (says []) I.Unit) w)

pub write_tuple-returns-in_default : goal.write_tuple-returns-in_default
write_tuple-returns-in_default t c =
    let around = around_of c.args.around.now in
    let w = seen c.args.walking.now in
    let is = no_tuple c.args.place (map (spot_of around) c.args.spots.now) c.args.is_nested c.args.value.now c.in_default.not-Tuple c.in_default.not-Never in
    record {
      value = wrote_in c.wrong_write.result around (λ a. got (wrong_write c.args.place) w) _ c.wrong_write.ensures.value
          (sym (ap (λ (a : Walk Wrote). got a w) is));
      walked = left_as c.wrong_write.result (seen c.wrong_write.new.walking) (run (wrong_write c.args.place) w) _ c.wrong_write.ensures.walked
          (sym (ap (λ (a : Walk Wrote). run a w) is));
    }
