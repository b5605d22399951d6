mod Late
use Rattle.std.proofs.Common.{take, ◌≡◌, ◌∙◌, ◌+◌, ◌++◌, ◌∷◌, [], List, Some, map, slice_get, ap, sym, refl, arith, ◌≤◌, length, ◌-◌, not}
use Rattle.std.proofs.lemmas.List.{map-append}
use Rattle.sail_types.specs.declared.numbers.Con.TheVariants as C
use Rattle.sail_types.specs.declared.numbers.Con.{Con}
use Rattle.sail_core.specs.declared.targets.Target.{Target, out-Target}
use Rattle.sail_core.specs.declared.targets.TargetKind.TheVariants as T
use Rattle.sail_core.specs.declared.tree.Core.{out-Core}
use Rattle.sail_core.specs.declared.tree.Giver.TheVariants as Gives
use Rattle.value_indices.proofs.Walks.{run_give}
use Rattle.value_indices.specs.Steps.{Walk, bind}
use Rattle.value_indices.specs.Walking.{got, run, seen}
use Rattle.value_indices.specs.declared.indices.Indices.TheVariants as I
use Rattle.value_indices.specs.declared.indices.Indices.{Indices}
use Rattle.wide_types.proofs.Turns.{found}
use Rattle.pattern_leaves.proofs.Rests.{two_of, one_of}
use Rattle.pattern_leaves.proofs.Walked.{ended_by, pushed_got, pushed_run, then_got, then_run, made_got, made_run}
use Rattle.pattern_leaves.specs.Settings.{around_of}
use Rattle.pattern_leaves.specs.declared.names.Bound.{Bound}
use Rattle.call_arguments.proofs.Lists.{item_is}
use Rattle.call_arguments.specs.Aims.{aimed}
use Rattle.call_arguments.specs.declared.aims.Aim.TheVariants as Aims
use Rattle.call_arguments.specs.declared.aims.Aim.{Aim}
use Rattle.call_notes.specs.Ends.{settled}
use Rattle.expression_forms.specs.Nodes.{cast_ended}
use Rattle.expression_forms.specs.Scopes.{newest, scope_of}
use Rattle.expression_forms.specs.Spots.{spot_of, written_by}
use Rattle.expression_steps.specs.Calls.{argument_aims}
use Rattle.expression_steps.specs.Coded.{aim_or_free, each_part, left_behind, spotted_in, ways_seen, taken_in}
use Rattle.expression_steps.specs.Expressions.{part}
use Rattle.expression_steps.specs.Parts.{under}
use Rattle.expression_steps.specs.Statements.{measure_walk, joined_under, turn_part}
use Rattle.expression_steps.specs.Targets.{spotting, tuple_spotted, assigned, assigned_one}
use Rattle.expression_steps.specs.Values.{Row, taken, no_way}
use Rattle.expression_notes.proofs.Bindings.{names_alike}
use Rattle.expression_steps.proofs.Conditions.{value_same, walked_same}
use Rattle.expression_notes.proofs.JoinLaws.{guarded_alike, joined_alike, none_alike}
use Rattle.expression_notes.proofs.LeftMasses.{ends_masses, only_target, taken_mass, between, ends_are, cased_masses, tried_masses}
use Rattle.expression_notes.proofs.MadeLaws.{made_ends, with_values, without}
use Rattle.expression_steps.proofs.Masses.{either_masses, kind_mass, mass_at, mass_opens, masses, masses_take, one_mass, rest_mass, rest_target, target_at}
use Rattle.expression_steps.proofs.Masses.{masses_drop, target_masses, target_opens, target_some, two_masses, way_at, way_mass, mass}
use Rattle.expression_steps.proofs.Meeting.{match_got, match_run, try_got, try_run}
use Rattle.expression_notes.proofs.Numbers.{numbers_end, numbers_walked, number_is, number_onward, number_stop}
use Rattle.expression_steps.proofs.Onward.{given_got, given_run, same_got, same_run, then_got_in, then_run_in, on_ok, ok_then}
use Rattle.expression_steps.proofs.Opened.{inward_is, plain_is}
use Rattle.expression_steps.proofs.Rests.{first_of, none_of, others, three_of}
use Rattle.expression_steps.proofs.Rows.{item_got, item_run, items_got, items_run, no_items, no_row}
use Rattle.expression_steps.proofs.Spots.{call_got, call_run, one_assigned, call_alone, of_any, part_opens}
use Rattle.expression_notes.proofs.Spotted.{last_there, none_within_got, spots_onward, spots_stop, none_within_run, part_got, part_run, last_is, kind_opens}
use Rattle.expression_notes.proofs.Spotted.{spots_ended, stopped_alike}
use Rattle.expression_notes.proofs.Taken.{never_alike, part_alike, part_left, step_alike, stop_alike, taken_got, reached_got, reached_run, updated_got}
use Rattle.expression_notes.proofs.Taken.{updated_run, way_opens, few_way, no_way_got, one_value, suffixes_ended, uncounted}
use Rattle.expression_steps.proofs.Turns.{alone_run, measured_run, tested_run, turns_got, turns_run}
use Rattle.expression_steps.proofs.Walked.{each_end, each_more, like_end, like_more}
use Rattle.expression_notes.proofs.RowLaws.{row_due, row_free}
use Rattle.expression_notes.proofs.+walk.Goals as goal
use Rattle.std.specs.Option.{option_copied}
use Rattle.expression_steps.proofs.Left.{item_there}
use Rattle.expression_notes.proofs.BlockSteps.{few_more, names_grown, part_mass, statement_alike, statements_behind}
use Rattle.expression_notes.specs.Chains.{written_back}
use Rattle.expression_notes.proofs.ChainSteps.{gone_alike, last_alike, onward_alike}
use Rattle.expression_notes.proofs.Blocks.{assert_alike, if_alike, in_alike, more_alike, other_alike}
use Rattle.expression_notes.proofs.BranchLaws.{no_either_alike, no_turns, no_when_alike, some_either_alike, some_turns, some_when_alike, ways_met, ways_onward}
use Rattle.expression_notes.proofs.FewParts.{few_alike, many_alike}
use Rattle.expression_notes.proofs.WayLaws.{way_alike}
use Rattle.expression_notes.proofs.+walk.Answers.Late.{here_part, late_part, no_way_late, none_late, none_part, some_late, wrong_part}

pub expressions::walk_expression-returns-in_ok-value : goal.expressions::walk_expression-returns-in_ok-value
expressions::walk_expression-returns-in_ok-value t c = let around = around_of c.args.around.now in let scope = scope_of c.args.scope.now in let aim =
    c.args.aim.now in let opens = inward_is _ _ around scope aim c.as_slice.ensures _ c.makes_value.ensures (sym c.goes_inward.ensures ∙ c.if-goes_inward.true)
    in let is = c.in_ok-value.ensures.value in let was = c.in_ok-value.ensures.walked in let by = c.end_node.ensures in
    record { value = then_got_in _ (λ (i : Indices). i) _ _ _ _ _ _ opens is was by.value; walked = then_run_in _ _ _ _ _ _ _ _ opens is was by.walked }

pub expressions::walk_expression-returns-in_ok-ended : goal.expressions::walk_expression-returns-in_ok-ended
expressions::walk_expression-returns-in_ok-ended t c = let around = around_of c.args.around.now in let scope = scope_of c.args.scope.now in let aim =
    c.args.aim.now in let core = c.args.core.now in let settles = settled around (out-Core core).place aim in let opens = plain_is _ _ around scope aim
    c.as_slice-else-goes_inward.ensures _ c.makes_value-else-goes_inward.ensures (sym c.goes_inward.ensures ∙ c.if-goes_inward.false) in let is =
    c.in_ok-ended.ensures.value ∙ then_got _ settles _ _ _ c.in_ok-plain.ensures.value c.in_ok-plain.ensures.walked in let was = c.in_ok-ended.ensures.walked ∙
    then_run _ settles _ _ _ c.in_ok-plain.ensures.value c.in_ok-plain.ensures.walked in let by = c.end_node-else-goes_inward.ensures in
    record { value = then_got_in _ (λ (i : Indices). i) _ _ _ _ _ _ opens is was by.value; walked = then_run_in _ _ _ _ _ _ _ _ opens is was by.walked }

pub parts::walk_each-loop-index-preserved : goal.parts::walk_each-loop-index-preserved
parts::walk_each-loop-index-preserved t c = let around = around_of c.args.around.now in let scope = scope_of c.args.scope.now in let aims = c.args.aims.now in
    let k = c.loop-index.index in let a = c.index-parts-index.result in let first = (part a).walk around scope (aim_or_free (slice_get aims k)) in let opens =
    each_more _ around scope aims _ _ c.loop-index-test.true c.index-parts-index.is in let v = seen c.loop-index.walking in let w = seen
    c.walk_expression.new.walking in let is : c.in_ok-walk_expression.field-0 ≡ got first v = c.in_ok-walk_expression.ensures.value ∙ ap (λ (o : Aim). got
    ((part a).walk around scope o) v) c.aim_at-aim.ensures in let was : w ≡ run first v = c.in_ok-walk_expression.ensures.walked ∙ ap (λ (o : Aim). run ((part
    a).walk around scope o) v) c.aim_at-aim.ensures in let by = c.loop-index.invariant in
    record { value = pushed_got _ _ _ _ _ _ _ _ c.in_ok-push.ensures.pushed is was opens ∙ by.value; walked = pushed_run _ _ _ _ _ was opens ∙ by.walked }

pub parts::walk_each-returns : goal.parts::walk_each-returns
parts::walk_each-returns t c = let v = seen c.loop-index.walking in
    let ends = each_end _ (around_of c.args.around.now) (scope_of c.args.scope.now) c.args.aims.now _ c.loop-index-test.false in
    let on = c.loop-index.invariant in let none = sym (run_give {A = List Indices} [] v) in
    record { value = ended_by _ _ _ _ ends on.value; walked = none ∙ ap (λ (a : Walk (List Indices)). run a v) (sym ends) ∙ on.walked }

pub parts::walk_numbers-loop-core-preserved : goal.parts::walk_numbers-loop-core-preserved
parts::walk_numbers-loop-core-preserved t c = let h = c.in_ok-value.ensures in let n = c.in_ok-integer_number.ensures in let a = c.core-item.result in
    let is = number_is (part a) _ _ _ _ _ _ _ _ c.place_of.ensures h.value h.walked n.value n.walked in
    let same = number_onward _ _ _ _ _ _ _ c.loop-core-test.true c.core-item.is is.walked _ _ _ (sym c.in-Some.is ∙ is.value)
    c.in_ok-push-in-Some.ensures.pushed in record { value = same.value ∙ c.loop-core.invariant.value; walked = same.walked ∙ c.loop-core.invariant.walked }

pub parts::walk_numbers-returns-in-None : goal.parts::walk_numbers-returns-in-None
parts::walk_numbers-returns-in-None t c = let h = c.in_ok-value.ensures in let n = c.in_ok-integer_number.ensures in let a = c.core-item.result in
    let is = number_is (part a) _ _ _ _ _ _ _ _ c.place_of.ensures h.value h.walked n.value n.walked in
    let same = number_stop _ _ _ _ _ _ _ c.loop-core-test.true c.core-item.is is.walked c.loop-core.made (sym c.in-None.is ∙ is.value) in
    record { value = same.value ∙ c.loop-core.invariant.value; walked = same.walked ∙ c.loop-core.invariant.walked }

pub parts::walk_numbers-returns : goal.parts::walk_numbers-returns
parts::walk_numbers-returns t c = let around = around_of c.args.around.now in let scope = scope_of c.args.scope.now in let w = seen c.loop-core.walking in
    let on = c.loop-core.invariant in let ends = c.loop-core-test.false in
    record { value = numbers_end around scope _ _ c.loop-core.made w ends ∙ on.value; walked = numbers_walked around scope _ _ w ends ∙ on.walked }

pub truths::walk_joined-returns-in_ok-restore-in-Some : goal.truths::walk_joined-returns-in_ok-restore-in-Some
truths::walk_joined-returns-in_ok-restore-in-Some t c = let truth = c.in_ok-walk_truth-in-len2.ensures in let walked = c.in_ok-value-in-Some.ensures in
    let same = joined_alike _ (part c.left-item.result) (part c.right-item.result) _ _ _ _ _ _ _ _ _ _ _ _ truth.value truth.walked c.in-Some.is
    c.in_ok-given-in-Some.ensures c.in_ok-remember-in-Some.ensures c.in_ok-assume-in-Some.ensures walked.value walked.walked c.in_ok-restore-in-Some.ensures _
    c.place_of.ensures in let two = two_of _ _ _ c.in-len2.len_at_least c.in-len2.len_below c.left-item.is c.right-item.is in
    record { value = rw two (value_same _ _ _ same.value c.joined.ensures.value); walked = rw two (walked_same _ _ _ _ same.walked c.joined.ensures.walked) }

pub truths::walk_joined-returns-in-None : goal.truths::walk_joined-returns-in-None
truths::walk_joined-returns-in-None t c = let truth = c.in_ok-walk_truth-in-len2.ensures in let b = part c.right-item.result in
    let none = none_alike (part c.left-item.result) _ _ _ _ (joined_under c.args.is_or b (around_of c.args.around.now) (scope_of c.args.scope.now)) _
    truth.value truth.walked c.in-None.is in let two = two_of _ _ _ c.in-len2.len_at_least c.in-len2.len_below c.left-item.is c.right-item.is in
    record { value = rw two none.value; walked = rw two none.walked }

pub truths::walk_guarded-returns-in_ok-assume-in-Some : goal.truths::walk_guarded-returns-in_ok-assume-in-Some
truths::walk_guarded-returns-in_ok-assume-in-Some t c = let truth = c.in_ok-walk_truth-in-len2.ensures in let same = guarded_alike (part c.guard-item.result)
    (part c.body-item.result) _ _ c.args.aim.now _ _ _ _ _ truth.value truth.walked c.in-Some.is c.in_ok-assume-in-Some.ensures in let two = two_of _ _ _
    c.in-len2.len_at_least c.in-len2.len_below c.guard-item.is c.body-item.is in let by = c.walk_expression.ensures in
    record { value = rw two (value_same _ _ _ same.value by.value); walked = rw two (walked_same _ _ _ _ same.walked by.walked) }

pub truths::walk_guarded-returns-in-None : goal.truths::walk_guarded-returns-in-None
truths::walk_guarded-returns-in-None t c = let truth = c.in_ok-walk_truth-in-len2.ensures in let b = part c.body-item.result in let aim = c.args.aim.now in let
    guards = λ (d : Con). under d b (around_of c.args.around.now) (scope_of c.args.scope.now) aim in let none = none_alike (part c.guard-item.result) _ _ _ _
    guards _ truth.value truth.walked c.in-None.is in let two = two_of _ _ _ c.in-len2.len_at_least c.in-len2.len_below c.guard-item.is c.body-item.is in
    record { value = rw two none.value; walked = rw two none.walked }

pub values::walk_like-loop-item-preserved : goal.values::walk_like-loop-item-preserved
values::walk_like-loop-item-preserved t c = let around = around_of c.args.around.now in let scope = scope_of c.args.scope.now in let a = part c.item-item.result
    in let r = c.args.reading.now in let z = c.in_ok-value.ensures in let here = c.place_of.ensures in let opens = like_more _ around scope r _ _
    c.loop-item-test.true c.item-item.is in let by = c.loop-item.invariant in let is = item_got a around scope r _ _ _ _ here z.value z.walked in let was =
    item_run a around scope r _ _ _ _ here z.value z.walked _ c.in_ok-owe_item.ensures in
    record { value = pushed_got _ _ _ _ _ _ _ _ c.in_ok-push.ensures.pushed is was opens ∙ by.value; walked = pushed_run _ _ _ _ _ was opens ∙ by.walked }

pub values::walk_like-returns : goal.values::walk_like-returns
values::walk_like-returns t c = let v = seen c.loop-item.walking in let on = c.loop-item.invariant in
    let ends = like_end _ (around_of c.args.around.now) (scope_of c.args.scope.now) c.args.reading.now _ c.loop-item-test.false in
    let none = sym (run_give {A = List Indices} [] v) in
    record { value = ended_by _ _ _ _ ends on.value; walked = none ∙ ap (λ (a : Walk (List Indices)). run a v) (sym ends) ∙ on.walked }

pub values::walk_first-returns-in-empty : goal.values::walk_first-returns-in-empty
values::walk_first-returns-in-empty t c = let is = none_of _ c.in-empty.len_below in let v = seen c.args.walking.now in
    record { value = rw is (no_items _ v c.new.ensures); walked = rw is (sym (run_give {A = Row} (no_row []) v)) }

pub values::walk_first-returns-in_ok-values-in-len1-up : goal.values::walk_first-returns-in_ok-values-in-len1-up
values::walk_first-returns-in_ok-values-in-len1-up t c = let a = c.first-item.result in let is = first_of _ _ c.in-len1-up.len_at_least c.first-item.is in
    let z = c.in_ok-value-in-len1-up.ensures in let r = c.in_ok-reading-in-len1-up.ensures in let owed = c.in_ok-owe_item-in-len1-up.ensures in
    let like = c.in_ok-values-in-len1-up.ensures in let one = c.in_ok-one-in-len1-up.ensures in let here = c.place_of.ensures in
    let allows = c.in_ok-allowed-in-len1-up.ensures in
    record {
      value = rw is (items_got (part a) _ _ _ _ _ _ _ _ _ _ _ _ _ _ _ allows one here z.value z.walked r.value r.walked owed like.value like.walked);
      walked = rw is (items_run (part a) _ _ _ _ _ _ _ _ _ _ _ _ _ _ _ allows one here z.value z.walked r.value r.walked owed like.value like.walked);
    }

pub values::walk_row-returns-in_ok-row : goal.values::walk_row-returns-in_ok-row
values::walk_row-returns-in_ok-row t c = let same = row_free c.args.place c.args.number c.args.is_list _ _ _ _ _ _ _ _ c.in_ok-wanted.ensures _ (sym
    c.is_hole.ensures ∙ c.if-is_hole.true) c.in_ok-row.ensures.value c.in_ok-row.ensures.walked in
    record { value = value_same _ _ _ same.value c.row_of.ensures.value; walked = walked_same _ _ _ _ same.walked c.row_of.ensures.walked }

pub values::walk_row-returns-in_ok-values : goal.values::walk_row-returns-in_ok-values
values::walk_row-returns-in_ok-values t c = let same = row_due c.args.place c.args.number c.args.is_list c.args.shape.now _ _ _ _ _ _ _ c.in_ok-wanted.ensures _
    _ (sym c.is_hole.ensures ∙ c.if-is_hole.false) (c.as_slice.ensures ∙ c.in_ok-aims.ensures) c.in_ok-values.ensures.value c.in_ok-values.ensures.walked in
    let by = c.row_of-else-is_hole.ensures in record { value = value_same _ _ _ same.value by.value; walked = walked_same _ _ _ _ same.walked by.walked }

pub made::walk_made-returns : goal.made::walk_made-returns
made::walk_made-returns t c = let same = made_ends _ _ c.args.place c.args.number _ _ _ c.args.aim.now _ _ _ _ _ c.in_ok-count.ensures
    c.first_parts-first.ensures (c.as_slice.ensures ∙ c.in_ok-aims.ensures) c.in_ok-values.ensures.value c.in_ok-values.ensures.walked in
    record { value = value_same _ _ _ same.value c.made_end.ensures.value; walked = walked_same _ _ _ _ same.walked c.made_end.ensures.walked }

pub made::walk_with-returns-in-empty : goal.made::walk_with-returns-in-empty
made::walk_with-returns-in-empty t c = let is = none_of _ c.in-empty.len_below in
    record { value = rw is c.wrong_value.ensures.value; walked = rw is c.wrong_value.ensures.walked }

pub made::walk_with-returns-in-None : goal.made::walk_with-returns-in-None
made::walk_with-returns-in-None t c = let same = without c.args.place c.args.number _ _ _ c.args.parts.now _ _ _ _ _ (first_of _ _ c.in-len1-up.len_at_least
    c.base-item.is) c.in_ok-value-in-len1-up.ensures.value c.in_ok-value-in-len1-up.ensures.walked _ c.in_ok-with_aims-in-len1-up.ensures c.in-None.is in
    record { value = value_same _ _ _ same.value c.no_struct.ensures.value; walked = walked_same _ _ _ _ same.walked c.no_struct.ensures.walked }

pub made::walk_with-returns-in_ok-values-in-Some : goal.made::walk_with-returns-in_ok-values-in-Some
made::walk_with-returns-in_ok-values-in-Some t c = let by = c.with_ended.ensures in let values = c.in_ok-values-in-Some.ensures in
    let same = with_values c.args.place c.args.number _ _ _ c.args.parts.now _ _ _ _ _ (first_of _ _ c.in-len1-up.len_at_least c.base-item.is)
    c.in_ok-value-in-len1-up.ensures.value c.in_ok-value-in-len1-up.ensures.walked _ _ _ _ _ _ c.in_ok-with_aims-in-len1-up.ensures c.in-Some.is
    (c.first_parts-others.ensures ∙ ap (λ n. take n (others c.args.parts.now)) c.len.ensures) c.as_slice.ensures values.value values.walked in
    record { value = value_same _ _ _ same.value by.value; walked = walked_same _ _ _ _ same.walked by.walked }

pub made::walk_place-returns-in_ok-value-in-len1 : goal.made::walk_place-returns-in_ok-value-in-len1
made::walk_place-returns-in_ok-value-in-len1 t c = let one = one_of _ _ c.in-len1.len_at_least c.in-len1.len_below c.core-item.is in
    let value = c.in_ok-value-in-len1.ensures in let by = c.cast_ended.ensures in let next = cast_ended c.args.number c.args.aim.now in
    record {
      value = rw one (then_got_in _ (λ (i : Indices). i) _ next _ _ _ _ refl value.value value.walked by.value);
      walked = rw one (then_run_in _ _ next _ _ _ _ _ refl value.value value.walked by.walked);
    }

pub reading::walk_way-returns-then-left-count : goal.reading::walk_way-returns-then-left-count
reading::walk_way-returns-then-left-count t c = let around = around_of c.args.around.now in let scope = scope_of c.args.scope.now in let parts =
    c.args.parts.now in let none = few_way c.args.place around scope c.args.value.now c.args.way c.args.at c.indexes_of-count.result parts
    c.left_at-left.result.now c.left_at-left.ensures c.indexes_of-count.ensures c.if-left-count.true in let by = c.no_way.ensures in let r = c.no_way.result in
    record { value = no_way_got r parts c.args.place _ (seen c.args.walking.now) none by.value; walked = same_run r (no_way c.args.place) _ _ _ none by.walked }

pub reading::walk_way-returns-in-None : goal.reading::walk_way-returns-in-None
reading::walk_way-returns-in-None t c = let numbers = c.in_ok-walk_numbers.ensures in
    let same = uncounted c.args.place (around_of c.args.around.now) (scope_of c.args.scope.now) c.args.value.now c.args.way c.args.at _ c.args.parts.now
    c.left_at-left.result.now c.first_parts.result.now c.left_at-left.ensures c.indexes_of-count.ensures c.if-left-count.false c.first_parts.ensures _ _ _
    numbers.value numbers.walked c.in-None.is in record { value = same.value; walked = same.walked }

pub reading::walk_way-returns-in-Some : goal.reading::walk_way-returns-in-Some
reading::walk_way-returns-in-Some t c = let around = around_of c.args.around.now in let scope = scope_of c.args.scope.now in let parts = c.args.parts.now in let
    opens = way_opens c.args.place around scope c.args.value.now c.args.way c.args.at c.indexes_of-count.result parts c.left_at-left.result.now
    c.first_parts.result.now c.left_at-left.ensures c.indexes_of-count.ensures c.if-left-count.false c.first_parts.ensures in let found = (λ j. Some
    (c.as_slice.ensures j)) ∙ sym c.in-Some.is ∙ c.in_ok-walk_numbers.ensures.value in let was = c.in_ok-walk_numbers.ensures.walked in let z = c.args.value.now
    in let v = seen c.args.walking.now in let w = seen c.walk_numbers.new.walking in let next = c.args.at + c.indexes_of-count.result in let left = left_behind
    parts next in let ns = c.as_slice.result.now in let way = c.args.way in let r = c.way_reached.result in let by = c.way_reached.ensures in
    record {
      value = taken_got r parts _ c.behind.result next _ v c.behind.ensures (reached_got around z way left _ _ ns v w opens found was) by.value;
      walked = ok_then r (reached_run around z way left _ _ ns v w (seen c.way_reached.new.walking) opens found was) by.walked;
    }

pub reading::walk_suffixes-loop-suffix-preserved : goal.reading::walk_suffixes-loop-suffix-preserved
reading::walk_suffixes-loop-suffix-preserved t c = let parts = c.args.parts.now in let is = item_is _ _ _ c.loop-suffix-test.true in
    let found = (λ j. taken_in parts (sym c.in-Some.is j)) ∙ c.in_ok-walk_way.ensures.value in let read = c.in_ok-value-in-Some.ensures in
    let same = step_alike _ _ c.args.is_target _ _ _ _ _ _ _ _ _ c.as_ref.ensures.value _ _ _ c.loop-suffix-test.true is found c.in_ok-walk_way.ensures.walked
    read.value read.walked in record { value = same.value ∙ c.loop-suffix.invariant.value; walked = same.walked ∙ c.loop-suffix.invariant.walked }

pub reading::walk_suffixes-returns-in-None : goal.reading::walk_suffixes-returns-in-None
reading::walk_suffixes-returns-in-None t c = let parts = c.args.parts.now in
    let found = (λ j. taken_in parts (sym c.in-None.is j)) ∙ c.in_ok-walk_way.ensures.value in let within = c.loop-suffix-test.true in
    let same = stop_alike _ _ c.args.is_target _ _ _ _ _ _ _ within (item_is _ _ _ within) found c.in_ok-walk_way.ensures.walked in
    record { value = same.value ∙ c.loop-suffix.invariant.value; walked = same.walked ∙ c.loop-suffix.invariant.walked }

pub reading::walk_suffixes-returns : goal.reading::walk_suffixes-returns
reading::walk_suffixes-returns t c = let same = suffixes_ended (around_of c.args.around.now) (scope_of c.args.scope.now) c.args.is_target c.args.suffixes.now _
    (left_behind c.args.parts.now c.loop-suffix.at) c.loop-suffix.value (seen c.loop-suffix.walking) c.loop-suffix-test.false in
    record { value = same.value ∙ c.loop-suffix.invariant.value; walked = same.walked ∙ c.loop-suffix.invariant.walked }

pub reading::walk_part-returns-in-empty : goal.reading::walk_part-returns-in-empty
reading::walk_part-returns-in-empty t c = let none = none_of _ c.in-empty.len_below in
    record { value = rw none c.wrong_value.ensures.value; walked = rw none c.wrong_value.ensures.walked }

pub reading::walk_part-returns-then-left-ne0 : goal.reading::walk_part-returns-then-left-ne0
reading::walk_part-returns-then-left-ne0 t c = let first = first_of _ _ c.in-len1-up.len_at_least c.base-item.is in
    let same = part_left c.args.place (around_of c.args.around.now) (scope_of c.args.scope.now) c.args.suffixes.now c.base-item.result _ _ _ _
    c.in_ok-value-in-len1-up.ensures.value c.in_ok-value-in-len1-up.ensures.walked (λ e. c.if-left-ne0.true (c.left_after-left.ensures ∙ e)) in
    record {
      value = rw first (value_same _ _ _ same.value c.if_never_value.ensures.value);
      walked = rw first (walked_same _ _ _ _ same.walked c.if_never_value.ensures.walked);
    }

pub reading::walk_part-returns-in_ok-found-in-len1-up : goal.reading::walk_part-returns-in_ok-found-in-len1-up
reading::walk_part-returns-in_ok-found-in-len1-up t c = let first = first_of _ _ c.in-len1-up.len_at_least c.base-item.is in
    let same = part_alike c.args.place (around_of c.args.around.now) (scope_of c.args.scope.now) c.args.suffixes.now c.base-item.result _ _ _ _
    c.in_ok-value-in-len1-up.ensures.value c.in_ok-value-in-len1-up.ensures.walked _ _ (sym c.left_after-left.ensures ∙ c.if-left-ne0.false)
    c.in_ok-found-in-len1-up.ensures.value c.in_ok-found-in-len1-up.ensures.walked in
    record { value = rw first (c.value_of.ensures ∙ same.value); walked = rw first same.walked }

pub reading::walk_update-returns-in-None : goal.reading::walk_update-returns-in-None
reading::walk_update-returns-in-None t c = let around = around_of c.args.around.now in let scope = scope_of c.args.scope.now in let parts = c.args.parts.now in
    let opens = one_value c.args.place c.args.number c.args.way around scope parts (between parts) c.base-item.result c.core-item.result (ends_are _ _ _
    c.in-len2-up.len_at_least c.base-item.is c.core-item.is) (c.if-indexes-count.false ∙ c.indexes_of-count.ensures) in let value =
    c.in_ok-value-in-len2-up.ensures in let same = never_alike c.args.place c.args.number c.args.way around scope c.base-item.result c.core-item.result (between
    parts) _ _ _ _ value.value value.walked (sym c.in-None.is ∙ c.in_ok-walk_numbers-in-len2-up.ensures.value) c.in_ok-walk_numbers-in-len2-up.ensures.walked in
    let w = seen c.args.walking.now in record { value = same.value ∙ (λ j. got (sym opens j) w); walked = same.walked ∙ (λ j. run (sym opens j) w) }

pub reading::walk_update-returns-in_ok-reached-in-Some : goal.reading::walk_update-returns-in_ok-reached-in-Some
reading::walk_update-returns-in_ok-reached-in-Some t c = let around = around_of c.args.around.now in let scope = scope_of c.args.scope.now in let parts =
    c.args.parts.now in let opens = one_value c.args.place c.args.number c.args.way around scope parts (between parts) c.base-item.result c.core-item.result
    (ends_are _ _ _ c.in-len2-up.len_at_least c.base-item.is c.core-item.is) (c.if-indexes-count.false ∙ c.indexes_of-count.ensures) in let value =
    c.in_ok-value-in-len2-up.ensures in let numbers = c.in_ok-walk_numbers-in-len2-up.ensures in let reached = c.in_ok-reached-in-Some.ensures in
    let found = (λ j. Some (c.as_slice.ensures j)) ∙ sym c.in-Some.is ∙ numbers.value in let is = c.as_ref.ensures.value ∙ reached.value in record {
      value = same_got c.updated.result (λ made. made) _ _ _ opens (updated_got _ _ _ _ _ c.base-item.result _ (between parts) _ _ _ _ _ _ _ _ value.value
          value.walked found numbers.walked is reached.walked c.updated.ensures.value);
      walked = same_run c.updated.result _ _ _ _ opens (updated_run _ _ _ _ _ c.base-item.result _ (between parts) _ _ _ _ _ _ _ _ _ value.value value.walked
          found numbers.walked is reached.walked c.updated.ensures.walked);
    }

pub targets::spot_each-loop-target-preserved : goal.targets::spot_each-loop-target-preserved
targets::spot_each-loop-target-preserved t c = let around = around_of c.args.around.now in let parts = c.args.parts.now in
    let found = (λ j. spotted_in around parts (sym c.in-Some.is j)) ∙ c.in_ok-spot_target.ensures.value in
    let grown = ap (map (spot_of around)) c.in_ok-push-in-Some.ensures.pushed ∙ map-append (spot_of around) c.loop-target.spots (c.in-Some.spot ∷ []) in
    let same = spots_onward _ _ _ _ _ _ _ _ _ _ _ _ c.loop-target-test.true c.target-item.is found c.in_ok-spot_target.ensures.walked grown in
    record { value = same.value ∙ c.loop-target.invariant.value; walked = same.walked ∙ c.loop-target.invariant.walked }

pub targets::spot_each-returns-in-None : goal.targets::spot_each-returns-in-None
targets::spot_each-returns-in-None t c = let around = around_of c.args.around.now in let parts = c.args.parts.now in
    let found = (λ j. spotted_in around parts (sym c.in-None.is j)) ∙ c.in_ok-spot_target.ensures.value in
    let same = spots_stop _ _ _ _ _ _ (map (spot_of around) c.loop-target.spots) _ _ c.loop-target-test.true c.target-item.is found
    c.in_ok-spot_target.ensures.walked in record { value = same.value ∙ c.loop-target.invariant.value; walked = same.walked ∙ c.loop-target.invariant.walked }

pub targets::spot_each-returns : goal.targets::spot_each-returns
targets::spot_each-returns t c = let around = around_of c.args.around.now in
    let same = spots_ended around (scope_of c.args.scope.now) c.args.targets.now _ (left_behind c.args.parts.now c.loop-target.at) (map (spot_of around)
    c.loop-target.spots) (seen c.loop-target.walking) c.loop-target-test.false in
    record { value = same.value ∙ c.loop-target.invariant.value; walked = same.walked ∙ c.loop-target.invariant.walked }

pub targets::spot_within-returns-in-empty : goal.targets::spot_within-returns-in-empty
targets::spot_within-returns-in-empty t c = let scope = scope_of c.args.scope.now in let parts = c.args.parts.now in let held = c.in_ok-held.ensures in
    let found = Some (c.args.base, c.args.at) in let by = c.no_spot.ensures in let none = c.in-empty.len_below in
    record {
      value = none_within_got _ scope _ c.args.number _ parts found _ _ refl _ _ _ held.value held.walked _ none by.value;
      walked = none_within_run _ scope _ c.args.number _ parts found _ _ refl _ _ _ held.value held.walked _ _ none by.walked;
    }

pub targets::spot_within-returns-in-None : goal.targets::spot_within-returns-in-None
targets::spot_within-returns-in-None t c = let ss = c.args.suffixes.now in let held = c.in_ok-held.ensures in
    let went = c.in_ok-walk_suffixes-in-len1-up.ensures in let last = last_is ss c.in-len1-up.len_at_least in
    let same = stopped_alike (around_of c.args.around.now) (scope_of c.args.scope.now) c.args.place c.args.number ss c.args.parts.now (Some (
      c.args.base,
      c.args.at,
    )) _ _ refl _ _ _ held.value held.walked _ last.0 last.1 refl _ c.in_ok-value-in-len1-up.ensures _ _ went.value went.walked c.in-None.is in
    record { value = same.value; walked = same.walked }

pub targets::spot_within-returns-in_ok-reached-in-Some : goal.targets::spot_within-returns-in_ok-reached-in-Some
targets::spot_within-returns-in_ok-reached-in-Some t c = let ss = c.args.suffixes.now in let held = c.in_ok-held.ensures in
    let went = c.in_ok-walk_suffixes-in-len1-up.ensures in let by = c.in_ok-reached-in-Some.ensures in let number = c.args.number in
    let found = Some (c.args.base, c.args.at) in let value = c.in_ok-value-in-len1-up.ensures in let x = c.in_ok-reached-in-Some.reached in
    let w = seen c.walk_way.new.walking in let r = c.part_found.result in let some = c.in-Some.is in let long = c.in-len1-up.len_at_least in record {
      value = part_got _ _ c.args.place number ss _ found _ _ refl _ _ _ held.value held.walked _ _ (last_there _ _ long) refl _ value _ _ went.value
          went.walked _ _ some x w r by.value c.part_found.ensures;
      walked = part_run _ _ c.args.place number ss _ found _ _ refl _ _ _ held.value held.walked _ _ (last_there _ _ long) refl _ value _ _ went.value
          went.walked _ _ some x w r by.walked;
    }

pub targets::spot_late-returns-then-has_no_way : goal.targets::spot_late-returns-then-has_no_way
targets::spot_late-returns-then-has_no_way t c = no_way_late t c

pub targets::spot_late-returns-in-None : goal.targets::spot_late-returns-in-None
targets::spot_late-returns-in-None t c = none_late t c

pub targets::spot_late-returns-in-Some : goal.targets::spot_late-returns-in-Some
targets::spot_late-returns-in-Some t c = some_late t c

pub targets::spot_part-returns-in-None : goal.targets::spot_part-returns-in-None
targets::spot_part-returns-in-None t c = none_part t c

pub targets::spot_part-returns-then-not-is_base : goal.targets::spot_part-returns-then-not-is_base
targets::spot_part-returns-then-not-is_base t c = wrong_part t c

pub targets::spot_part-returns-then-is_late : goal.targets::spot_part-returns-then-is_late
targets::spot_part-returns-then-is_late t c = late_part t c

pub targets::spot_part-returns-else-is_late : goal.targets::spot_part-returns-else-is_late
targets::spot_part-returns-else-is_late t c = here_part t c

pub targets::spot_target-returns-in-Variable : goal.targets::spot_target-returns-in-Variable
targets::spot_target-returns-in-Variable t c = let opens = kind_opens _ _ _ (around_of c.args.around.now) (scope_of c.args.scope.now) (left_behind
    c.args.parts.now c.args.at) c.as_slice-targets.ensures c.in-Variable.is in
    record { value = same_got _ _ _ _ _ opens c.spot_name.ensures.value; walked = same_run _ _ _ _ _ opens c.spot_name.ensures.walked }

pub targets::spot_target-returns-in-Register : goal.targets::spot_target-returns-in-Register
targets::spot_target-returns-in-Register t c = let opens = kind_opens _ _ _ (around_of c.args.around.now) (scope_of c.args.scope.now) (left_behind
    c.args.parts.now c.args.at) c.as_slice-targets.ensures c.in-Register.is in
    record { value = same_got _ _ _ _ _ opens c.spot_register.ensures.value; walked = same_run _ _ _ _ _ opens c.spot_register.ensures.walked }

pub targets::spot_target-returns-in_ok-found-in-Tuple : goal.targets::spot_target-returns-in_ok-found-in-Tuple
targets::spot_target-returns-in_ok-found-in-Tuple t c = let place = (out-Target c.args.target.now).place in
    let number = (out-Target c.args.target.now).number in let found = c.in_ok-found-in-Tuple.ensures in
    let opens = kind_opens _ _ _ (around_of c.args.around.now) (scope_of c.args.scope.now) (left_behind c.args.parts.now c.args.at) c.as_slice-targets.ensures
    c.in-Tuple.is in let w = seen c.args.walking.now in let around = around_of c.args.around.now in
    record {
      value = c.tuple_found.ensures around c.args.parts.now ∙ made_got _ (tuple_spotted place number) _ _ found.value ∙ (λ j. got (sym opens j) w);
      walked = made_run _ (tuple_spotted place number) _ _ found.walked ∙ (λ j. run (sym opens j) w);
    }

pub targets::spot_target-returns-in_ok-values-in-empty : goal.targets::spot_target-returns-in_ok-values-in-empty
targets::spot_target-returns-in_ok-values-in-empty t c = let around = around_of c.args.around.now in let scope = scope_of c.args.scope.now in
    let parts = c.args.parts.now in let place = (out-Target c.args.target.now).place in
    let taken = c.first_parts-arguments.ensures ∙ ap (take _) c.left_at.ensures in
    let aims = c.as_slice.ensures ∙ c.in_ok-aims-in-empty.ensures ∙ ap argument_aims c.callee_types.ensures in let left = left_behind parts c.args.at in
    let ts = c.as_slice-targets.result.now in
    let opens = kind_opens _ _ _ around scope left c.as_slice-targets.ensures c.in-Call.is ∙ call_alone place (out-Target c.args.target.now).number around
    scope left _ _ _ ts c.in-empty.len_below in let first = c.first_parts-arguments.result.now in let due = c.as_slice.result.now in
    let held = c.in_ok-values-in-empty in let is = held.ensures.value in let was = held.ensures.walked in let v = seen c.args.walking.now in
    let w = seen c.walk_each.new.walking in let k = c.args.at in let r = c.call_found.result in let by = c.call_found.ensures in record {
      value = of_any r _ around parts _ (call_got around scope _ _ _ _ _ k parts first due held.values v w taken aims is was ∙ (λ j. got (sym opens j) v)) by;
      walked = on_ok r (call_run around scope _ _ _ _ _ k parts first due held.values v w taken aims is was ∙ (λ j. run (sym opens j) v));
    }

pub targets::spot_target-returns-in_ok-found-in-len1 : goal.targets::spot_target-returns-in_ok-found-in-len1
targets::spot_target-returns-in_ok-found-in-len1 t c = let around = around_of c.args.around.now in let scope = scope_of c.args.scope.now in
    let parts = c.args.parts.now in let place = (out-Target c.args.target.now).place in
    let kind = c.in-Part.is ∙ (λ j. T.Part (sym c.as_slice-suffixes.ensures j)) in let left = left_behind parts c.args.at in
    let opens = kind_opens _ _ _ around scope left c.as_slice-targets.ensures kind ∙ part_opens place (out-Target c.args.target.now).number around scope left
    c.as_slice-suffixes.result.now _ _ c.in-len1.len_at_least c.in-len1.len_below c.base-item.is in
    let is = c.in_ok-found-in-len1.ensures in let by = c.spot_part.ensures in
    record { value = then_got_in _ _ _ _ _ _ _ _ opens is.value is.walked by.value; walked = then_run_in _ _ _ _ _ _ _ _ opens is.value is.walked by.walked }

pub targets::assign-returns-in-empty : goal.targets::assign-returns-in-empty
targets::assign-returns-in-empty t c = let around = around_of c.args.around.now in let scope = scope_of c.args.scope.now in let parts = c.args.parts.now in
    let opens = ap (λ (l : List Target). assigned c.args.place (map spotting l) around scope (left_behind parts c.args.at)) (none_of _ c.in-empty.len_below) in
    record { value = same_got _ (λ made. made) _ _ _ opens c.wrong_value.ensures.value; walked = same_run _ _ _ _ _ opens c.wrong_value.ensures.walked }

pub targets::assign-returns-in-None : goal.targets::assign-returns-in-None
targets::assign-returns-in-None t c = let around = around_of c.args.around.now in let scope = scope_of c.args.scope.now in let parts = c.args.parts.now in
    let opens = ap (λ (ts : List Target). assigned c.args.place (map spotting ts) around scope (left_behind parts c.args.at)) (first_of _ _
    c.in-len1-up.len_at_least c.target-item.is) in
    let found = (λ j. spotted_in around parts (sym c.in-None.is j)) ∙ c.in_ok-spot_target-in-len1-up.ensures.value in
    let was = c.in_ok-spot_target-in-len1-up.ensures.walked in
    record { value = given_got _ _ _ _ _ _ I.Never opens found was refl; walked = given_run _ _ _ _ _ _ I.Never opens found was refl }

pub targets::assign-returns-in-Some : goal.targets::assign-returns-in-Some
targets::assign-returns-in-Some t c = let around = around_of c.args.around.now in let scope = scope_of c.args.scope.now in let parts = c.args.parts.now in
    let opens = ap (λ (ts : List Target). assigned c.args.place (map spotting ts) around scope (left_behind parts c.args.at)) (first_of _ _
    c.in-len1-up.len_at_least c.target-item.is) in
    let found = (λ j. spotted_in around parts (sym c.in-Some.is j)) ∙ c.in_ok-spot_target-in-len1-up.ensures.value in
    let was = c.in_ok-spot_target-in-len1-up.ensures.walked in let by = c.assign_to.ensures in
    record { value = then_got_in _ (λ made. made) _ _ _ _ _ _ opens found was by.value; walked = then_run_in _ _ _ _ _ _ _ _ opens found was by.walked }

pub targets::assign_last-returns-in_ok-value-in-len1 : goal.targets::assign_last-returns-in_ok-value-in-len1
targets::assign_last-returns-in_ok-value-in-len1 t c = let around = around_of c.args.around.now in let scope = scope_of c.args.scope.now in
    let spot = spot_of around c.args.spot.now in let place = c.args.place in
    let aim = c.given-aim.ensures ∙ (λ j. aimed Aims.Given (c.in_ok-typ-in-len1.ensures j)) in
    let opens = one_assigned place around scope spot 0 c.args.parts.now c.args.parts.now c.core-item.result refl c.in-len1.len_at_least c.in-len1.len_below
    c.core-item.is ∙ (λ j. bind ((part c.core-item.result).walk around scope (sym aim j)) (written_by place spot (sym c.is_nested.ensures j))) in
    let is = c.in_ok-value-in-len1.ensures.value in let was = c.in_ok-value-in-len1.ensures.walked in let by = c.assign.ensures in
    record { value = then_got_in _ (λ made. made) _ _ _ _ _ _ opens is was by.value; walked = then_run_in _ _ _ _ _ _ _ _ opens is was by.walked }

pub targets::assign_to-loop-target-preserved : goal.targets::assign_to-loop-target-preserved
targets::assign_to-loop-target-preserved t c = let around = around_of c.args.around.now in let l = c.loop-target in let parts = c.args.parts.now in
    let found = (λ j. spotted_in around parts (sym c.in-Some.is j)) ∙ c.in_ok-spot_target.ensures.value in
    let grown = ap (map (spot_of around)) c.in_ok-push-in-Some.ensures.pushed ∙ map-append (spot_of around) l.before (l.spot ∷ []) in
    let same = onward_alike c.args.place around (scope_of c.args.scope.now) c.args.targets.now l.target-index _ c.loop-target-test.true c.target-item.is
    (spot_of around l.spot) (left_behind parts l.at) (map (spot_of around) l.before) _ grown (seen l.walking) _ c.in_ok-spot_target.ensures.walked _ _ found in
    record { value = same.value ∙ l.invariant.value; walked = same.walked ∙ l.invariant.walked }

pub targets::assign_to-returns-in-None : goal.targets::assign_to-returns-in-None
targets::assign_to-returns-in-None t c = let around = around_of c.args.around.now in let l = c.loop-target in let parts = c.args.parts.now in
    let found = (λ j. spotted_in around parts (sym c.in-None.is j)) ∙ c.in_ok-spot_target.ensures.value in
    let grown = ap (map (spot_of around)) (c.as_slice.ensures ∙ c.in_ok-push-in-None.ensures.pushed) ∙ map-append (spot_of around) l.before (l.spot ∷ []) in
    let same = gone_alike c.args.place around (scope_of c.args.scope.now) c.args.targets.now l.target-index _ c.loop-target-test.true c.target-item.is (spot_of
    around l.spot) (left_behind parts l.at) (map (spot_of around) l.before) _ grown (seen l.walking) _ c.in_ok-spot_target.ensures.walked found in
    let by = c.assign_back.ensures in let on = l.invariant in
    record { value = value_same _ _ _ (same.value ∙ on.value) by.value; walked = walked_same _ _ _ _ (same.walked ∙ on.walked) by.walked }

pub targets::assign_to-returns : goal.targets::assign_to-returns
targets::assign_to-returns t c = let around = around_of c.args.around.now in let l = c.loop-target in let scope = scope_of c.args.scope.now in
    let left = ap each_part c.left_at-left.ensures in let spot = spot_of around l.spot in
    let is = c.in_ok-value.ensures.value ∙ (λ j. got (assigned_one c.args.place around scope spot (left j)) (seen l.walking)) in
    let was = c.in_ok-value.ensures.walked ∙ (λ j. run (assigned_one c.args.place around scope spot (left j)) (seen l.walking)) in
    let same = last_alike c.args.place around scope c.args.targets.now l.target-index spot (left_behind c.args.parts.now l.at) (map (spot_of around) l.before)
    _ (seen l.walking) _ c.loop-target-test.false is was in let before = ap (map (spot_of around)) c.as_slice-2.ensures in let z = c.in_ok-value.value in
    let w = seen c.assign_last.new.walking in let on = l.invariant in let by = c.assign_back-2.ensures in
    record {
      value = value_same _ _ _ ((λ j. got (written_back c.args.place (before j) z) w) ∙ same.value ∙ on.value) by.value;
      walked = walked_same _ _ _ _ ((λ j. run (written_back c.args.place (before j) z) w) ∙ same.walked ∙ on.walked) by.walked;
    }

pub branches::walk_branch-returns : goal.branches::walk_branch-returns
branches::walk_branch-returns t c = let scope = scope_of c.args.scope.now in let found = c.in_ok-found.ensures in let is = c.in_ok-value.ensures in
    let within = c.with-inside.ensures ∙ ap (λ (bs : List Bound). bs ++ scope) c.as_slice.ensures in let by = c.end_way.ensures in
    let same = way_alike c.args.is_free c.args.before c.args.shape.now (around_of c.args.around.now) scope c.args.aim.now c.args.way.now c.args.first
    (seen c.remember.new.self) (seen c.open_way.new.walking) c.core-core.result.now (scope_of c.with-inside.result) c.in_ok-aim.aim c.in_ok-found.found
    found.value found.walked within c.in_ok-aim.ensures c.core-core.ensures _ _ _ c.in_ok-remember.ensures is.value is.walked in
    record { value = value_same _ _ _ same.value by.value; walked = walked_same _ _ _ _ same.walked by.walked }

pub branches::walk_ways-loop-way-preserved : goal.branches::walk_ways-loop-way-preserved
branches::walk_ways-loop-way-preserved t c = let way = c.in_ok-first.ensures in
    let same = ways_onward c.is_free-free.result c.next-before.result c.args.shape.now (around_of c.args.around.now) (scope_of c.args.scope.now)
    c.args.aim.now c.args.ways.now _ _ _ _ _ _ c.loop-way-test.true c.way-item.is way.value way.walked in
    record { value = same.value ∙ c.loop-way.invariant.value; walked = same.walked ∙ c.loop-way.invariant.walked }

pub branches::walk_ways-returns : goal.branches::walk_ways-returns
branches::walk_ways-returns t c = let same = ways_met c.is_free-free.result c.next-before.result c.args.shape.now (around_of c.args.around.now) (scope_of
    c.args.scope.now) c.args.aim.now c.args.ways.now c.args.place c.args.number c.is_free-free.ensures c.loop-way.first _ _ (seen c.args.walking.now) (seen
    c.loop-way.walking) c.next-before.ensures c.loop-way-test.false c.as_ref.ensures.value c.loop-way.invariant.value c.loop-way.invariant.walked in
    record { value = value_same _ _ _ same.value c.met_value.ensures.value; walked = walked_same _ _ _ _ same.walked c.met_value.ensures.walked }

pub branches::walk_either-returns-in-None : goal.branches::walk_either-returns-in-None
branches::walk_either-returns-in-None t c = let truth = c.in_ok-walk_truth.ensures in
    let same = no_either_alike _ _ c.args.condition.now _ _ _ truth.value truth.walked c.args.place c.args.number c.args.shape.now c.args.aim.now
    c.args.then.now c.args.otherwise.now c.in-None.is in record { value = same.value; walked = same.walked }

pub branches::walk_either-returns-in_ok-value-in-Some : goal.branches::walk_either-returns-in_ok-value-in-Some
branches::walk_either-returns-in_ok-value-in-Some t c = let around = around_of c.args.around.now in let scope = scope_of c.args.scope.now in
    let truth = c.in_ok-walk_truth.ensures in let value = c.in_ok-value-in-Some.ensures in
    let not = c.in_ok-other-in-Some.ensures ∙ ap (λ (d : Con). C.Not d) c.in_ok-copy_con-in-Some.ensures in
    let same = some_either_alike around scope c.args.condition.now _ _ _ truth.value truth.walked c.args.place c.args.number c.args.shape.now c.args.aim.now
    c.args.then.now c.args.otherwise.now _ _ c.in-Some.is not _ _ _ (c.either_ways-ways.ensures.ways around scope c.args.aim.now) value.value value.walked in
    record { value = same.value; walked = same.walked }

pub branches::walk_branches-returns-in-None : goal.branches::walk_branches-returns-in-None
branches::walk_branches-returns-in-None t c = let truth = c.in_ok-walk_truth-in-len2.ensures in
    let two = two_of _ _ _ c.in-len2.len_at_least c.in-len2.len_below c.condition-item.is c.body-item.is in
    let same = no_when_alike _ _ c.condition-item.result _ _ _ truth.value truth.walked c.args.place c.args.number c.args.shape.now c.args.aim.now
    c.args.parts.now c.body-item.result two c.in-None.is in record { value = same.value; walked = same.walked }

pub branches::walk_branches-returns-in_ok-restore-in-Some : goal.branches::walk_branches-returns-in_ok-restore-in-Some
branches::walk_branches-returns-in_ok-restore-in-Some t c = let truth = c.in_ok-walk_truth-in-len2.ensures in
    let two = two_of _ _ _ c.in-len2.len_at_least c.in-len2.len_below c.condition-item.is c.body-item.is in
    let same = some_when_alike _ _ c.condition-item.result _ _ _ truth.value truth.walked c.args.place c.args.number c.args.shape.now c.args.aim.now
    c.args.parts.now c.body-item.result two _ c.in-Some.is _ _ _ _ _ _ _ c.in_ok-copy_con-in-Some.ensures c.in_ok-remember-in-Some.ensures
    c.in_ok-assume-in-Some.ensures c.in_ok-given-in-Some.ensures.value c.in_ok-given-in-Some.ensures.walked c.in_ok-unit_of-in-Some.ensures.walked
    c.in_ok-restore-in-Some.ensures in record { value = same.value; walked = same.walked }

pub branches::walk_branches-returns-in-len3 : goal.branches::walk_branches-returns-in-len3
branches::walk_branches-returns-in-len3 t c = let parts = three_of _ _ _ _ c.in-len3.len_at_least c.in-len3.len_below c.test-item.is c.then-item.is
    c.otherwise-item.is in record { value = rw parts c.walk_either.ensures.value; walked = rw parts c.walk_either.ensures.walked }

pub branches::walk_branches-returns-in-empty : goal.branches::walk_branches-returns-in-empty
branches::walk_branches-returns-in-empty t c = let same = few_alike c.args.place c.args.number c.args.shape.now (around_of c.args.around.now) (scope_of
    c.args.scope.now) c.args.aim.now (seen c.args.walking.now) c.args.parts.now (omega arith) in record { value = same.value; walked = same.walked }

pub branches::walk_branches-returns-in-len1 : goal.branches::walk_branches-returns-in-len1
branches::walk_branches-returns-in-len1 t c = let same = few_alike c.args.place c.args.number c.args.shape.now (around_of c.args.around.now) (scope_of
    c.args.scope.now) c.args.aim.now (seen c.args.walking.now) c.args.parts.now (omega arith) in record { value = same.value; walked = same.walked }

pub branches::walk_branches-returns-in_default : goal.branches::walk_branches-returns-in_default
branches::walk_branches-returns-in_default t c = let same = many_alike c.args.place c.args.number c.args.shape.now (around_of c.args.around.now) (scope_of
    c.args.scope.now) c.args.aim.now (seen c.args.walking.now) c.args.parts.now (omega arith) in record { value = same.value; walked = same.walked }

pub branches::walk_cases-returns-in-empty : goal.branches::walk_cases-returns-in-empty
branches::walk_cases-returns-in-empty t c = let none = none_of _ c.in-empty.len_below in
    record { value = rw none c.wrong_value.ensures.value; walked = rw none c.wrong_value.ensures.walked }

pub branches::walk_cases-returns-in_ok-ways-in-len1-up : goal.branches::walk_cases-returns-in_ok-ways-in-len1-up
branches::walk_cases-returns-in_ok-ways-in-len1-up t c = let around = around_of c.args.around.now in let scope = scope_of c.args.scope.now in
    let aim = c.args.aim.now in let first = first_of _ _ c.in-len1-up.len_at_least c.core-item.is in let caught = c.in_ok-catch_at-in-len1-up.ensures in
    let ways = ap (ways_seen around scope aim) c.as_slice.ensures ∙ c.in_ok-ways-in-len1-up.ensures.ways around scope aim in let shape = c.args.shape.now in
    let yes = c.if-is_try.true in let sent = c.thrown-sent.ensures in let by = c.walk_ways.ensures in
    record {
      value = value_same _ _ _ (try_got _ _ _ shape _ _ _ _ _ _ _ first _ _ _ _ yes sent caught ways) by.value;
      walked = walked_same _ _ _ _ (try_run _ _ _ shape _ _ _ _ _ _ _ first _ _ _ _ yes sent caught ways) by.walked;
    }

pub branches::walk_cases-returns-in_ok-cases-in-len1-up : goal.branches::walk_cases-returns-in_ok-cases-in-len1-up
branches::walk_cases-returns-in_ok-cases-in-len1-up t c = let around = around_of c.args.around.now in let scope = scope_of c.args.scope.now in
    let aim = c.args.aim.now in let first = first_of _ _ c.in-len1-up.len_at_least c.core-item.is in let value = c.in_ok-value-in-len1-up.ensures in
    let ways = ap (ways_seen around scope aim) c.as_slice-else-is_try.ensures ∙ c.in_ok-cases-in-len1-up.ensures.ways around scope aim in
    let shape = c.args.shape.now in let no = c.if-is_try.false in let by = c.walk_ways-else-is_try.ensures in
    record {
      value = value_same _ _ _ (match_got _ _ _ shape _ _ _ _ _ _ _ first _ _ _ _ no value.value value.walked ways) by.value;
      walked = walked_same _ _ _ _ (match_run _ _ _ shape _ _ _ _ _ _ _ first _ _ _ _ no value.value value.walked ways) by.walked;
    }

pub statements::walk_bound-returns : goal.statements::walk_bound-returns
statements::walk_bound-returns t c = let value = c.in_ok-value.ensures in
    let same = names_alike (part c.args.core.now) _ _ c.args.giver _ _ _ _ _ _ _ c.is_nested-nested.ensures c.in_ok-aim.ensures.value c.in_ok-aim.ensures.walked
    value.value value.walked in
    record { value = value_same _ _ _ same.value c.end_binding.ensures.value; walked = walked_same _ _ _ _ same.walked c.end_binding.ensures.walked }

pub statements::walk_state-returns-in_ok-met-in-If : goal.statements::walk_state-returns-in_ok-met-in-If
statements::walk_state-returns-in_ok-met-in-If t c = let met = c.in_ok-met-in-If.ensures in
    let same = if_alike _ _ (around_of c.args.around.now) (scope_of c.args.scope.now) c.as_slice-parts.ensures _ _ c.in-If.is _ _ met.value met.walked in
    record { value = value_same _ _ _ same.value c.claim_behind.ensures.value; walked = walked_same _ _ _ _ same.walked c.claim_behind.ensures.walked }

pub statements::walk_state-returns-in-len1 : goal.statements::walk_state-returns-in-len1
statements::walk_state-returns-in-len1 t c = let one = one_of _ _ c.in-len1.len_at_least c.in-len1.len_below c.condition-item.is in
    let same = assert_alike _ _ (around_of c.args.around.now) (scope_of c.args.scope.now) c.as_slice-parts.ensures (seen c.args.walking.now) _ c.in-Assert.is _
    one in record { value = value_same _ _ _ same.value c.walk_truth.ensures.value; walked = walked_same _ _ _ _ same.walked c.walk_truth.ensures.walked }

pub statements::walk_state-returns-in-empty : goal.statements::walk_state-returns-in-empty
statements::walk_state-returns-in-empty t c = let same = assert_alike _ _ (around_of c.args.around.now) (scope_of c.args.scope.now) c.as_slice-parts.ensures
    (seen c.args.walking.now) _ c.in-Assert.is _ (none_of _ c.in-empty.len_below) in
    record { value = value_same _ _ _ same.value c.wrong_state.ensures.value; walked = walked_same _ _ _ _ same.walked c.wrong_state.ensures.walked }

pub statements::walk_state-returns-in_default-parts : goal.statements::walk_state-returns-in_default-parts
statements::walk_state-returns-in_default-parts t c = let more : 2 ≤ length c.as_slice-parts.result.now = omega arith in
    let same = more_alike _ _ (around_of c.args.around.now) (scope_of c.args.scope.now) c.as_slice-parts.ensures (seen c.args.walking.now) _ c.in-Assert.is
    more in let by = c.wrong_state-in_default-parts.ensures in
    record { value = value_same _ _ _ same.value by.value; walked = walked_same _ _ _ _ same.walked by.walked }

pub statements::walk_state-returns-in_ok-walk_expression-in_default : goal.statements::walk_state-returns-in_ok-walk_expression-in_default
statements::walk_state-returns-in_ok-walk_expression-in_default t c = let same = other_alike _ _ (around_of c.args.around.now) (scope_of c.args.scope.now)
    c.as_slice-parts.ensures _ c.in_default.not-If c.in_default.not-Assert _ c.in_ok-walk_expression-in_default.ensures.walked in
    record { value = same.value; walked = same.walked }

pub statements::walk_in-returns-in_ok-aim-in-len2 : goal.statements::walk_in-returns-in_ok-aim-in-len2
statements::walk_in-returns-in_ok-aim-in-len2 t c = let scope = scope_of c.args.scope.now in let found = c.in_ok-found-in-len2.ensures in
    let within = c.with-inside.ensures ∙ ap (λ (bs : List Bound). bs ++ scope) c.as_slice.ensures in
    let same = in_alike _ _ (part c.core-item.result) (part c.body-item.result) _ _ _ _ _ _ _ _ found.value found.walked within c.in_ok-aim-in-len2.ensures in
    let two = two_of _ _ _ c.in-len2.len_at_least c.in-len2.len_below c.core-item.is c.body-item.is in let by = c.walk_expression.ensures in
    record { value = rw two (value_same _ _ _ same.value by.value); walked = rw two (walked_same _ _ _ _ same.walked by.walked) }

pub statements::walk_value-returns-in_ok-aim-in-empty : goal.statements::walk_value-returns-in_ok-aim-in-empty
statements::walk_value-returns-in_ok-aim-in-empty t c = let v = seen c.args.walking.now in let no_part = none_of _ c.in-empty.len_below in
    let is = ap (λ (aim : Aim). settled (around_of c.args.around.now) c.args.place aim I.Unit) c.in_ok-aim-in-empty.ensures in let by = c.settled.ensures in
    record { value = rw no_part (same_got _ (λ made. made) _ _ _ (sym is) by.value); walked = rw no_part (same_run _ _ _ _ _ (sym is) by.walked) }

pub statements::walk_block-loop-index-preserved : goal.statements::walk_block-loop-index-preserved
statements::walk_block-loop-index-preserved t c = let l = c.loop-index in let scope = scope_of c.args.scope.now in
    let there = item_there c.args.parts.now l.index c.get.result c.get.ensures.lookup.0 c.get.ensures.lookup.1 in
    let inside = c.with_groups-inside.ensures ∙ ap (λ (gs : List (List Bound)). newest gs ++ scope) c.as_slice.ensures in
    let stepped = c.in_ok-found-in-Some.ensures in let claimed = c.in_ok-claims-in-Some.ensures in
    let grown = names_grown _ c.in_ok-found-in-Some.found (newest l.groups) scope c.in_ok-bring_in-in-Some.ensures in
    let counted = ap (λ n. l.claims + n) claimed.value in
    let behind = statements_behind l.index c.args.statements.now c.loop-index-test.true in
    let same = statement_alike c.args.place c.args.number (around_of c.args.around.now) c.args.aim.now c.args.statements.now c.args.parts.now l.index
    c.index-statements-index.result c.loop-index-test.true c.index-statements-index.is c.in-Some.core.now (sym there ∙ ap option_copied c.in-Some.is) _ _
    inside (seen l.walking) _ _ (ap (λ n. Gives.Arm c.args.number n) behind) c.in_ok-found-in-Some.found c.in_ok-found-in-Some.condition
    stepped.value stepped.walked l.claims _ _ _ counted claimed.walked grown in
    record {
      value = same.value ∙ l.invariant.value;
      walked = same.walked ∙ l.invariant.walked;
      few = few_more l.claims l.index c.in_ok-claims-in-Some.field-0 c.in_ok-found-in-Some.condition claimed.value
          l.invariant.few;
      within = omega (arith, c.loop-index-test.true);
    }

pub loops::walk_foreach-returns-in-None : goal.loops::walk_foreach-returns-in-None
loops::walk_foreach-returns-in-None t c = let n = c.in_ok-numbers-in-len4.ensures in
    let same = no_turns c.args.place c.args.name.now c.args.way _ _ c.body-item.result c.args.parts.now _ _ _ _ _ c.in-len4.len_at_least c.in-len4.len_below
    c.body-item.is c.first_parts-three.ensures n.value n.walked c.in_ok-bounds_of-in-len4.ensures c.in-None.is in
    record { value = same.value; walked = same.walked }

pub loops::walk_foreach-returns-in_ok-restore-in-Some : goal.loops::walk_foreach-returns-in_ok-restore-in-Some
loops::walk_foreach-returns-in_ok-restore-in-Some t c = let n = c.in_ok-numbers-in-len4.ensures in
    let inside = c.with-inside.ensures ∙ ap (λ (bs : List Bound). bs ++ scope_of c.args.scope.now) c.as_slice.ensures in
    let same = some_turns c.args.place c.args.name.now c.args.way _ _ c.body-item.result c.args.parts.now _ _ _ _ _ c.in-len4.len_at_least c.in-len4.len_below
    c.body-item.is c.first_parts-three.ensures n.value n.walked c.in_ok-bounds_of-in-len4.ensures _ c.in-Some.is _ _ _ _ _ c.in_ok-found-in-Some.ensures.value
    c.in_ok-found-in-Some.ensures.walked inside c.in_ok-walk_expression-in-Some.ensures.walked c.in_ok-restore-in-Some.ensures in
    record { value = same.value; walked = same.walked }

pub loops::walk_measure-returns : goal.loops::walk_measure-returns
loops::walk_measure-returns t c = let value = c.in_ok-value.ensures in measured_run _ _ c.args.core.now _ c.natural_aim-aim.ensures _ c.place_of.ensures _ _ _
    _ _ _ c.in_ok-remember.ensures value.value value.walked c.in_ok-integer_number.ensures.walked c.in_ok-restore.ensures

pub loops::walk_turn-returns-in_ok-restore : goal.loops::walk_turn-returns-in_ok-restore
loops::walk_turn-returns-in_ok-restore t c =
    tested_run _ _ _ _ _ _ _ _ c.in_ok-remember.ensures c.in_ok-restore.ensures c.if-is_condition.true c.in_ok-walk_truth.ensures.walked

pub loops::walk_turn-returns-in_ok-restore-2 : goal.loops::walk_turn-returns-in_ok-restore-2
loops::walk_turn-returns-in_ok-restore-2 t c =
    alone_run _ _ _ _ _ _ _ _ c.in_ok-remember.ensures c.in_ok-restore-2.ensures c.if-is_condition.false c.in_ok-walk_expression.ensures.walked

pub loops::walk_loop-returns-in_ok-walk_turn-in-len3-2 : goal.loops::walk_loop-returns-in_ok-walk_turn-in-len3-2
loops::walk_loop-returns-in_ok-walk_turn-in-len3-2 t c = let around = around_of c.args.around.now in let scope = scope_of c.args.scope.now in
    let v = seen c.args.walking.now in let is_while = c.args.is_while in
    let parts = three_of _ _ _ _ c.in-len3.len_at_least c.in-len3.len_below c.measure-item.is c.first-item.is c.second-item.is in
    let m = part c.measure-item.result in let a = part c.first-item.result in let b = part c.second-item.result in
    record {
      value = rw parts (turns_got (measure_walk m around scope) (turn_part is_while a around scope) (turn_part (not is_while) b around scope) v);
      walked = rw parts (turns_run _ _ _ _ _ _ _ c.in_ok-walk_measure-in-len3.ensures c.in_ok-walk_turn-in-len3.ensures c.in_ok-walk_turn-in-len3-2.ensures);
    }

-- ---- what calls require: that there is less to walk over
pub statements::walk_block-walk_statement-requires : goal.statements::walk_block-walk_statement-requires
statements::walk_block-walk_statement-requires t c =
    let there = item_there c.args.parts.now c.loop-index.index c.get.result c.get.ensures.lookup.0 c.get.ensures.lookup.1 in
    let has = part_mass c.args.parts.now c.loop-index.index c.in-Some.core.now (sym there ∙ ap option_copied c.in-Some.is) in
    (omega (arith, has, c.decreases), tt)

pub statements::walk_block-walk_value-requires : goal.statements::walk_block-walk_value-requires
statements::walk_block-walk_value-requires t c =
    (omega (arith, ap masses c.left_at-left.ensures, masses_drop c.args.parts.now (length c.args.statements.now), c.decreases), tt)

pub expressions::walk_expression-walk_inward-requires : goal.expressions::walk_expression-walk_inward-requires
expressions::walk_expression-walk_inward-requires t c = (omega (arith, mass_opens _ _ c.as_slice.ensures, c.decreases), tt)

pub expressions::walk_expression-walk_plain-requires : goal.expressions::walk_expression-walk_plain-requires
expressions::walk_expression-walk_plain-requires t c = (omega (arith, mass_opens _ _ c.as_slice-else-goes_inward.ensures, c.decreases), tt)

pub made::walk_place-walk_expression-requires : goal.made::walk_place-walk_expression-requires
made::walk_place-walk_expression-requires t c = (omega (arith, one_mass _ _ c.in-len1.len_at_least c.core-item.is, c.decreases), tt)

pub expressions::walk_parted-assign-requires : goal.expressions::walk_parted-assign-requires
expressions::walk_parted-assign-requires t c = (omega (arith, ap kind_mass c.in-Assign.is, ap target_masses c.as_slice-in-Assign.ensures, c.decreases), tt)

pub parts::walk_each-walk_expression-requires : goal.parts::walk_each-walk_expression-requires
parts::walk_each-walk_expression-requires t c = (omega (arith, mass_at _ _ _ c.loop-index-test.true c.index-parts-index.is, c.decreases), tt)

pub parts::walk_numbers-walk_expression-requires : goal.parts::walk_numbers-walk_expression-requires
parts::walk_numbers-walk_expression-requires t c = (omega (arith, mass_at _ _ _ c.loop-core-test.true c.core-item.is, c.decreases), tt)

pub truths::walk_joined-walk_truth-requires : goal.truths::walk_joined-walk_truth-requires
truths::walk_joined-walk_truth-requires t c = (omega (arith, two_masses _ _ _ c.in-len2.len_at_least c.left-item.is c.right-item.is, c.decreases), tt)

pub truths::walk_joined-walk_expression-requires : goal.truths::walk_joined-walk_expression-requires
truths::walk_joined-walk_expression-requires t c = (omega (arith, two_masses _ _ _ c.in-len2.len_at_least c.left-item.is c.right-item.is, c.decreases), tt)

pub truths::walk_guarded-walk_truth-requires : goal.truths::walk_guarded-walk_truth-requires
truths::walk_guarded-walk_truth-requires t c = (omega (arith, two_masses _ _ _ c.in-len2.len_at_least c.guard-item.is c.body-item.is, c.decreases), tt)

pub truths::walk_guarded-walk_expression-requires : goal.truths::walk_guarded-walk_expression-requires
truths::walk_guarded-walk_expression-requires t c = (omega (arith, two_masses _ _ _ c.in-len2.len_at_least c.guard-item.is c.body-item.is, c.decreases), tt)

pub values::walk_like-walk_expression-requires : goal.values::walk_like-walk_expression-requires
values::walk_like-walk_expression-requires t c = (omega (arith, mass_at _ _ _ c.loop-item-test.true c.item-item.is, c.decreases), tt)

pub values::walk_first-walk_expression-requires : goal.values::walk_first-walk_expression-requires
values::walk_first-walk_expression-requires t c = (omega (arith, rest_mass _ _ c.in-len1-up.len_at_least c.first-item.is, c.decreases), tt)

pub values::walk_first-walk_like-requires : goal.values::walk_first-walk_like-requires
values::walk_first-walk_like-requires t c = (omega (arith, rest_mass _ _ c.in-len1-up.len_at_least c.first-item.is, c.decreases), tt)

pub made::walk_made-walk_each-requires : goal.made::walk_made-walk_each-requires
made::walk_made-walk_each-requires t c = let cs = c.args.parts.now in let is = ap masses c.first_parts-first.ensures in
    let less = masses_take cs c.in_ok-count.count in let measure : masses cs + 50 ≡ t = c.decreases in (omega (arith, is, less, measure), tt)

pub made::walk_with-walk_each-requires : goal.made::walk_with-walk_each-requires
made::walk_with-walk_each-requires t c = let cs = c.args.parts.now in let part = rest_mass _ _ c.in-len1-up.len_at_least c.base-item.is in
    let is = ap masses c.first_parts-others.ensures in let less = masses_take (others cs) c.len.result in let measure : masses cs + 40 ≡ t = c.decreases in
    (omega (arith, part, is, less, measure), tt)

pub reading::walk_way-walk_numbers-requires : goal.reading::walk_way-walk_numbers-requires
reading::walk_way-walk_numbers-requires t c =
    (omega (arith, taken_mass c.args.at _ c.args.parts.now _ _ c.left_at-left.ensures c.first_parts.ensures, c.decreases), tt)

pub reading::walk_part-walk_expression-requires : goal.reading::walk_part-walk_expression-requires
reading::walk_part-walk_expression-requires t c = (omega (arith, rest_mass _ _ c.in-len1-up.len_at_least c.base-item.is, c.decreases), tt)

pub reading::walk_part-walk_suffixes-requires : goal.reading::walk_part-walk_suffixes-requires
reading::walk_part-walk_suffixes-requires t c = (omega (arith, rest_mass _ _ c.in-len1-up.len_at_least c.base-item.is, c.decreases), tt)

pub reading::walk_update-walk_expression-requires : goal.reading::walk_update-walk_expression-requires
reading::walk_update-walk_expression-requires t c = (omega (arith, ends_masses _ _ _ c.in-len2-up.len_at_least c.base-item.is c.core-item.is, c.decreases), tt)

pub reading::walk_update-walk_numbers-requires : goal.reading::walk_update-walk_numbers-requires
reading::walk_update-walk_numbers-requires t c = (omega (arith, ends_masses _ _ _ c.in-len2-up.len_at_least c.base-item.is c.core-item.is, c.decreases), tt)

pub reading::walk_update-updated-requires : goal.reading::walk_update-updated-requires
reading::walk_update-updated-requires t c = (omega (arith, ends_masses _ _ _ c.in-len2-up.len_at_least c.base-item.is c.core-item.is, c.decreases), tt)

pub targets::spot_each-spot_target-requires : goal.targets::spot_each-spot_target-requires
targets::spot_each-spot_target-requires t c = (omega (arith, target_at _ _ _ c.loop-target-test.true c.target-item.is, c.decreases), tt)

pub targets::spot_target-spot_each-requires : goal.targets::spot_target-spot_each-requires
targets::spot_target-spot_each-requires t c = (omega (arith, target_opens _ _ c.as_slice-targets.ensures, c.decreases), tt)

pub targets::spot_target-spot_target-requires : goal.targets::spot_target-spot_target-requires
targets::spot_target-spot_target-requires t c =
    (omega (arith, target_opens _ _ c.as_slice-targets.ensures, only_target _ _ c.in-len1.len_at_least c.base-item.is, c.decreases), tt)

pub targets::spot_target-walk_each-requires : goal.targets::spot_target-walk_each-requires
targets::spot_target-walk_each-requires t c = let taken = taken_mass c.args.at _ c.args.parts.now _ _ c.left_at.ensures c.first_parts-arguments.ensures in
    (omega (arith, target_some c.args.target.now, taken, c.decreases), tt)

pub targets::assign_last-walk_expression-requires : goal.targets::assign_last-walk_expression-requires
targets::assign_last-walk_expression-requires t c = (omega (arith, one_mass _ _ c.in-len1.len_at_least c.core-item.is, c.decreases), tt)

pub targets::assign_to-spot_target-requires : goal.targets::assign_to-spot_target-requires
targets::assign_to-spot_target-requires t c = (omega (arith, target_at _ _ _ c.loop-target-test.true c.target-item.is, c.decreases), tt)

pub targets::assign_to-assign_last-requires : goal.targets::assign_to-assign_last-requires
targets::assign_to-assign_last-requires t c = (omega (arith, ap masses c.left_at-left.ensures, masses_drop c.args.parts.now c.loop-target.at, c.decreases), tt)

pub targets::assign-spot_target-requires : goal.targets::assign-spot_target-requires
targets::assign-spot_target-requires t c = (omega (arith, rest_target _ _ c.in-len1-up.len_at_least c.target-item.is, c.decreases), tt)

pub targets::assign-assign_to-requires : goal.targets::assign-assign_to-requires
targets::assign-assign_to-requires t c =
    (omega (arith, rest_target _ _ c.in-len1-up.len_at_least c.target-item.is, target_some c.target-item.result, c.decreases), tt)

pub targets::spot_target-spot_part-requires : goal.targets::spot_target-spot_part-requires
targets::spot_target-spot_part-requires t c = (omega (arith, target_some c.args.target.now, c.decreases), tt)

pub targets::spot_late-walk_numbers-requires : goal.targets::spot_late-walk_numbers-requires
targets::spot_late-walk_numbers-requires t c =
    (omega (arith, taken_mass c.args.at _ c.args.parts.now _ _ c.left_at-left.ensures c.first_parts.ensures, c.decreases), tt)

pub branches::walk_branch-walk_expression-requires : goal.branches::walk_branch-walk_expression-requires
branches::walk_branch-walk_expression-requires t c = let e : mass c.core-core.result.now ≡ way_mass c.args.way.now = ap mass c.core-core.ensures in
    (omega (arith, e, c.decreases), tt)

pub branches::walk_ways-walk_branch-requires : goal.branches::walk_ways-walk_branch-requires
branches::walk_ways-walk_branch-requires t c = (omega (arith, way_at _ _ _ c.loop-way-test.true c.way-item.is, c.decreases), tt)

pub branches::walk_either-walk_ways-requires : goal.branches::walk_either-walk_ways-requires
branches::walk_either-walk_ways-requires t c = (omega (arith, either_masses _ _ _ c.either_ways-ways.ensures.cores, c.decreases), tt)

pub branches::walk_cases-walk_ways-requires : goal.branches::walk_cases-walk_ways-requires
branches::walk_cases-walk_ways-requires t c =
    (omega (arith, tried_masses _ _ _ _ _ c.as_slice.ensures c.in_ok-ways-in-len1-up.ensures.cores c.in-len1-up.len_at_least c.core-item.is, c.decreases), tt)

pub branches::walk_cases-walk_ways-requires-else-is_try : goal.branches::walk_cases-walk_ways-requires-else-is_try
branches::walk_cases-walk_ways-requires-else-is_try t c = let cores = c.in_ok-cases-in-len1-up.ensures.cores in
    (omega (arith, cased_masses _ _ _ _ _ c.as_slice-else-is_try.ensures cores c.in-len1-up.len_at_least c.core-item.is, c.decreases), tt)

pub statements::walk_value-walk_expression-requires : goal.statements::walk_value-walk_expression-requires
statements::walk_value-walk_expression-requires t c = (omega (arith, one_mass _ _ c.in-len1.len_at_least c.value-item.is, c.decreases), tt)

pub statements::walk_in-walk_bound-requires : goal.statements::walk_in-walk_bound-requires
statements::walk_in-walk_bound-requires t c = (omega (arith, two_masses _ _ _ c.in-len2.len_at_least c.core-item.is c.body-item.is, c.decreases), tt)

pub statements::walk_in-walk_expression-requires : goal.statements::walk_in-walk_expression-requires
statements::walk_in-walk_expression-requires t c = (omega (arith, two_masses _ _ _ c.in-len2.len_at_least c.core-item.is c.body-item.is, c.decreases), tt)

pub statements::walk_state-walk_branches-requires : goal.statements::walk_state-walk_branches-requires
statements::walk_state-walk_branches-requires t c = (omega (arith, mass_opens _ _ c.as_slice-parts.ensures, c.decreases), tt)

pub statements::walk_state-walk_truth-requires : goal.statements::walk_state-walk_truth-requires
statements::walk_state-walk_truth-requires t c =
    (omega (arith, mass_opens _ _ c.as_slice-parts.ensures, one_mass _ _ c.in-len1.len_at_least c.condition-item.is, c.decreases), tt)

pub loops::walk_foreach-walk_numbers-requires : goal.loops::walk_foreach-walk_numbers-requires
loops::walk_foreach-walk_numbers-requires t c = (omega (arith, ap masses c.first_parts-three.ensures, masses_take c.args.parts.now 3, c.decreases), tt)

pub loops::walk_foreach-walk_expression-requires : goal.loops::walk_foreach-walk_expression-requires
loops::walk_foreach-walk_expression-requires t c =
    (omega (arith, mass_at c.args.parts.now 3 c.body-item.result (omega (arith, c.in-len4.len_at_least)) c.body-item.is, c.decreases), tt)
