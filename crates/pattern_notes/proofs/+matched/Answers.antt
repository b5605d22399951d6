use Rattle.std.proofs.Common.{◌≡◌, ◌+◌, ◌++◌, ◌∷◌, [], List, length, map, drop, refl, sym, ap, ◌∙◌, subst, IfOk, OnOk}
use Rattle.std.proofs.Common.{ℕ, nat_eq, Bool, Option, Some, None, slice_get, if◌then◌else◌, arith}
use Rattle.std.specs.Option.{option_copied}
use Rattle.sail_types.specs.Named.{payload as payload_in}
use Rattle.sail_types.specs.Sums.{and_then, difference}
use Rattle.sail_types.specs.declared.numbers.Num.{Num}
use Rattle.sail_core.specs.declared.patterns.Pattern.{Pattern}
use Rattle.sail_core.specs.declared.patterns.Form.{Form}
use Rattle.sail_core.specs.declared.patterns.Form.TheVariants as F
use Rattle.sail_core.specs.declared.patterns.Head.{Head}
use Rattle.sail_core.specs.declared.patterns.Head.TheVariants as H
use Rattle.sail_core.specs.declared.model.Direction.{Direction}
use Rattle.value_indices.specs.declared.indices.Indices.{Indices, out-Indices}
use Rattle.value_indices.specs.declared.indices.Indices.TheVariants as I
use Rattle.value_indices.specs.declared.indices.Indices.TheOpen.{Indices-F}
use Rattle.value_indices.specs.declared.indices.Naming.{Naming, out-Naming}
use Rattle.value_indices.specs.declared.indices.Reading.{Reading}
use Rattle.value_indices.specs.Steps.{Walk, Conditions, note, way_note, owe_under, each}
use Rattle.value_indices.specs.Walking.{Written, got, run, seen, remembered_last}
use Rattle.value_indices.proofs.Walks.{got_give, run_give}
use Rattle.pattern_leaves.specs.declared.names.Bound.{Bound}
use Rattle.pattern_leaves.specs.Settings.{around_of, bound, written_in}
use Rattle.pattern_leaves.specs.Literals.{no_names, wrong_pattern}
use Rattle.pattern_leaves.specs.Payloads.{payload_types, payload_readings}
use Rattle.pattern_leaves.specs.Widths.{cut_conditions, cut_owed, cut_width, first_sum}
use Rattle.pattern_leaves.specs.Annotations.{written_at}
use Rattle.pattern_leaves.proofs.Opened.{out_never}
use Rattle.pattern_leaves.proofs.Rests.{one_of, two_of}
use Rattle.pattern_leaves.proofs.Walked.{then_got, then_run, made_got, made_run, wrong_got}
use Rattle.pattern_notes.specs.declared.matching.Matching.{Matching}
use Rattle.pattern_notes.specs.Patterns.{look, matched, inside, form_match, direction_met, given_met, result_of, option_of, written_owed, annotated_met}
use Rattle.pattern_notes.specs.Patterns.{parameter_owed, after_inner, item_met, items_met, each_met_never, cons_met, each_match, parts_match, taken_out}
use Rattle.pattern_notes.specs.Patterns.{all_taken, named_readings, constructor_met, length_owed, cut_parts, head_met, is_union, opens_met, union_met}
use Rattle.pattern_notes.proofs.Found.{found_as, left_as, taken_found, taken_left, after_got, after_run, more_got, more_run, on_ok, also_got, also_run, ended_got}
use Rattle.pattern_notes.proofs.HeadForms.{bits_met, first_met, items_of, list_met, named_met, tuple_met}
use Rattle.pattern_notes.proofs.HeadForms.{not_bits, not_first, not_list, not_named, not_never, not_tuple, not_vector}
use Rattle.pattern_notes.proofs.Looked.{matched_is, items_end, items_more, never_end, never_more, as_many, parts_more, parts_short, parts_long, parts_end}
use Rattle.pattern_notes.proofs.+matched.Goals as goal

pub parts::match_as-returns-in_ok-push-in-len1 : goal.parts::match_as-returns-in_ok-push-in-len1
parts::match_as-returns-in_ok-push-in-len1 t c =
    let around = around_of c.args.around.now in
    let i = c.args.indices.now in
    let name = c.args.name.now in
    let p = c.part-item.result in
    let v = seen c.args.walking.now in
    let one = one_of c.args.parts.now p c.in-len1.len_at_least c.in-len1.len_below c.part-item.is in
    record {
      found = c.in_ok-push-in-len1.ensures.pushed
          ∙ (λ j. c.in_ok-found-in-len1.ensures.found j ++ c.in_ok-name_value-in-len1.ensures j ∷ [])
          ∙ made_got (matched p around c.args.how i) (λ (found : List Bound). found ++ bound name i ∷ []) v
          (got (matched p around c.args.how i) v) refl
          ∙ ap (λ (ps : List Pattern). got (form_match c.args.place (F.As name) (map look ps) around c.args.how i) v) (sym one);
      walked = made_run (matched p around c.args.how i) (λ (found : List Bound). found ++ bound name i ∷ []) v (seen c.match_pattern.new.walking)
          c.in_ok-found-in-len1.ensures.walked
          ∙ ap (λ (ps : List Pattern). run (form_match c.args.place (F.As name) (map look ps) around c.args.how i) v) (sym one);
    }

pub parts::match_annotated-returns : goal.parts::match_annotated-returns
parts::match_annotated-returns t c =
    let around = around_of c.args.around.now in
    let i = c.args.indices.now in
    let p = look c.args.part.now in
    record {
      found = after_got (p.match_with around (inside c.args.how) i) (written_owed around c.args.place c.args.written.now c.args.how.is_owed i)
          (seen c.args.walking.now) (seen c.remember.new.self) c.in_ok-found.found c.in_ok-remember.ensures
          (c.in_ok-found.ensures.found ∙ ap (λ (h : Matching). got (p.match_with around h i) (seen c.remember.new.self)) c.inside.ensures);
      walked = after_run (p.match_with around (inside c.args.how) i) (written_owed around c.args.place c.args.written.now c.args.how.is_owed i)
          (seen c.args.walking.now) (seen c.remember.new.self) (seen c.match_pattern.new.walking) (seen c.owe_annotation.new.walking) (seen c.forget.new.self)
          c.in_ok-remember.ensures
          (c.in_ok-found.ensures.walked ∙ ap (λ (h : Matching). run (p.match_with around h i) (seen c.remember.new.self)) c.inside.ensures)
          c.in_ok-owe_annotation.ensures c.in_ok-forget.ensures;
    }

pub parts::match_typed-returns-in_ok-found-in-len1 : goal.parts::match_typed-returns-in_ok-found-in-len1
parts::match_typed-returns-in_ok-found-in-len1 t c =
    let around = around_of c.args.around.now in
    let i = c.args.indices.now in
    let w = c.args.written.now in
    let p = c.part-item.result in
    let v = seen c.args.walking.now in
    let one = one_of c.args.parts.now p c.in-len1.len_at_least c.in-len1.len_below c.part-item.is in
    let whole = annotated_met c.args.place w (look p) around c.args.how i in
    let write = λ (found : List Bound). map (written_at (out-Naming (look p).naming) (written_in around w)) found in
    let same : write c.in_ok-found-in-len1.found ≡ got (form_match c.args.place (F.Typed w) (map look c.args.parts.now) around c.args.how i) v =
    made_got whole write v c.in_ok-found-in-len1.found c.in_ok-found-in-len1.ensures.found
    ∙ ap (λ (ps : List Pattern). got (form_match c.args.place (F.Typed w) (map look ps) around c.args.how i) v) (sym one) in
    record {
      found = subst (λ (z : List Bound). IfOk c.write_types.result (λ found. found ≡ z)) same c.write_types.ensures;
      walked = on_ok c.write_types.result _
          (made_run whole write v (seen c.match_annotated.new.walking) c.in_ok-found-in-len1.ensures.walked
          ∙ ap (λ (ps : List Pattern). run (form_match c.args.place (F.Typed w) (map look ps) around c.args.how i) v) (sym one));
    }

pub parts::match_direction-returns : goal.parts::match_direction-returns
parts::match_direction-returns t c =
    let around = around_of c.args.around.now in
    let inner = item_met c.args.place (look c.args.part.now) around c.args.how c.args.given.now in
    let owes = parameter_owed around c.args.place c.args.direction.now c.args.indices.now in
    let way = note (λ facts. way_note facts c.args.number) in
    let v = seen c.args.walking.now in
    record {
      found = after_got inner owes (seen c.note_way.new.self) (seen c.remember.new.self) c.in_ok-found.found c.in_ok-remember.ensures
          c.in_ok-found.ensures.found
          ∙ then_got way (λ (x : Unit {0}). after_inner inner owes) v (seen c.note_way.new.self) (got way v) refl c.in_ok-note_way.ensures;
      walked = after_run inner owes (seen c.note_way.new.self) (seen c.remember.new.self) (seen c.match_given.new.walking) (seen c.owe_parameter.new.walking)
          (seen c.forget.new.self) c.in_ok-remember.ensures c.in_ok-found.ensures.walked c.in_ok-owe_parameter.ensures c.in_ok-forget.ensures
          ∙ then_run way (λ (x : Unit {0}). after_inner inner owes) v (seen c.note_way.new.self) (got way v) refl c.in_ok-note_way.ensures;
    }

pub several::match_items-loop-part-preserved : goal.several::match_items-loop-part-preserved
several::match_items-loop-part-preserved t c =
    let around = around_of c.args.around.now in
    let place = c.args.place in
    let how = c.args.how in
    let r = c.args.item.now in
    let ps = c.args.parts.now in
    let k = c.loop-part.part-index in
    let p = c.part-item.result in
    let first = item_met place (look p) around how r in
    let whole = items_met place (map look (drop k ps)) around how r in
    let rest = items_met place (map look (drop (k + 1) ps)) around how r in
    let opens = items_more place ps around how r k p c.loop-part-test.true c.part-item.is in
    let v = seen c.loop-part.walking in
    let w = seen c.match_given.new.walking in record {
      found = more_got c.loop-part.found c.append.new.self c.in_ok-match_given.field-0 whole first rest v w c.in_ok-append.ensures.appended
          c.in_ok-match_given.ensures.found c.in_ok-match_given.ensures.walked opens ∙ c.loop-part.invariant.found;
      walked = more_run whole first rest v w c.in_ok-match_given.ensures.walked opens ∙ c.loop-part.invariant.walked;
    }

pub several::match_never-loop-part-preserved : goal.several::match_never-loop-part-preserved
several::match_never-loop-part-preserved t c =
    let around = around_of c.args.around.now in
    let how = c.args.how in
    let ps = c.args.parts.now in
    let k = c.loop-part.part-index in
    let p = c.part-item.result in
    let first = matched p around (inside how) I.Never in
    let whole = each_met_never (map look (drop k ps)) around how in
    let rest = each_met_never (map look (drop (k + 1) ps)) around how in
    let opens = never_more ps around how k p c.loop-part-test.true c.part-item.is in
    let v = seen c.loop-part.walking in
    let w = seen c.match_pattern.new.walking in
    let is : c.in_ok-match_pattern.field-0 ≡ got first v =
    c.in_ok-match_pattern.ensures.found ∙ ap (λ (h : Matching). got (matched p around h I.Never) v) c.inside.ensures in
    let was : w ≡ run first v = c.in_ok-match_pattern.ensures.walked ∙ ap (λ (h : Matching). run (matched p around h I.Never) v) c.inside.ensures in record {
      found = more_got c.loop-part.found c.append.new.self c.in_ok-match_pattern.field-0 whole first rest v w c.in_ok-append.ensures.appended
          is was opens ∙ c.loop-part.invariant.found;
      walked = more_run whole first rest v w was opens ∙ c.loop-part.invariant.walked;
    }

pub several::match_vector-returns : goal.several::match_vector-returns
several::match_vector-returns t c =
    let around = around_of c.args.around.now in
    let ps = map look c.args.parts.now in
    let last = seen c.match_items.new.walking in
    record {
      found = after_got (items_met c.args.place ps around c.args.how c.args.item.now) (length_owed c.args.place (length ps) c.args.length.now)
          (seen c.args.walking.now) (seen c.remember.new.self) c.in_ok-found.found c.in_ok-remember.ensures c.in_ok-found.ensures.found;
      walked = after_run (items_met c.args.place ps around c.args.how c.args.item.now) (length_owed c.args.place (length ps) c.args.length.now)
          (seen c.args.walking.now) (seen c.remember.new.self) last (seen c.owe_length.new.walking) (seen c.forget.new.self)
          c.in_ok-remember.ensures c.in_ok-found.ensures.walked
          (c.in_ok-owe_length.ensures
          ∙ ap (λ n. run (length_owed c.args.place n c.args.length.now (remembered_last last)) last) (sym (as_many c.args.parts.now)))
          c.in_ok-forget.ensures;
    }

pub several::match_cut-returns : goal.several::match_cut-returns
several::match_cut-returns t c =
    let around = around_of c.args.around.now in
    let ps = map look c.args.parts.now in
    let ws = c.args.widths.now in
    let w = c.args.width.now in
    let rest : c.in_ok-rest.rest ≡ and_then (first_sum ws) (difference w) =
    c.in_ok-rest.ensures ∙ ap (λ (s : Option Num). and_then s (difference w)) c.in_ok-total.ensures in
    let last = seen c.match_cut_parts.new.walking in
    let owed : c.in_ok-conditions.conditions ≡ cut_conditions w (first_sum ws) ws =
    c.in_ok-conditions.ensures ∙ ap (λ (s : Option Num). cut_conditions w s ws) c.in_ok-total.ensures in
    record {
      found = after_got (cut_parts c.args.place ps around c.args.how ws (and_then (first_sum ws) (difference w))) (cut_owed c.args.place ws w)
          (seen c.args.walking.now) (seen c.remember.new.self) c.in_ok-found.found c.in_ok-remember.ensures
          (c.in_ok-found.ensures.found ∙ ap (λ (s : Option Num). got (cut_parts c.args.place ps around c.args.how ws s) (seen c.remember.new.self)) rest);
      walked = after_run (cut_parts c.args.place ps around c.args.how ws (and_then (first_sum ws) (difference w))) (cut_owed c.args.place ws w)
          (seen c.args.walking.now) (seen c.remember.new.self) last (seen c.owe_earlier.new.self) (seen c.forget.new.self) c.in_ok-remember.ensures
          (c.in_ok-found.ensures.walked ∙ ap (λ (s : Option Num). run (cut_parts c.args.place ps around c.args.how ws s) (seen c.remember.new.self)) rest)
          (c.in_ok-owe_earlier.ensures ∙ ap (λ (cs : Conditions). run (owe_under (remembered_last last) c.args.place cs) last) owed)
          c.in_ok-forget.ensures;
    }

pub several::match_cons-returns-in_ok-append-in-len2 : goal.several::match_cons-returns-in_ok-append-in-len2
several::match_cons-returns-in_ok-append-in-len2 t c =
    let around = around_of c.args.around.now in
    let place = c.args.place in
    let how = c.args.how in
    let r = c.args.item.now in
    let a = c.first-item.result in
    let b = c.rest-item.result in
    let v = seen c.args.walking.now in
    let first = item_met place (look a) around how r in
    let next = matched b around (inside how) (I.List r) in
    let two = two_of c.args.parts.now a b c.in-len2.len_at_least c.in-len2.len_below c.first-item.is c.rest-item.is in
    let list : I.List c.in_ok-new-in-len2.field-0 ≡ I.List r = (λ j. I.List ((c.in_ok-new-in-len2.ensures ∙ c.in_ok-copy_reading-in-len2.ensures) j)) in
    let more : c.in_ok-match_pattern-in-len2.field-0 ≡ got next (run first v) =
    c.in_ok-match_pattern-in-len2.ensures.found ∙ (λ j. got (matched b around (c.inside.ensures j) (list j)) (c.in_ok-found-in-len2.ensures.walked j)) in
    record {
      found = c.in_ok-append-in-len2.ensures.appended ∙ (λ j. c.in_ok-found-in-len2.ensures.found j ++ more j) ∙ sym (also_got first next v)
          ∙ ap (λ (ps : List Pattern). got (cons_met place (map look ps) around how r) v) (sym two);
      walked = c.in_ok-match_pattern-in-len2.ensures.walked
          ∙ (λ j. run (matched b around (c.inside.ensures j) (list j)) (c.in_ok-found-in-len2.ensures.walked j))
          ∙ sym (also_run first next v)
          ∙ ap (λ (ps : List Pattern). run (cons_met place (map look ps) around how r) v) (sym two);
    }

pub several::match_each-loop-index-preserved : goal.several::match_each-loop-index-preserved
several::match_each-loop-index-preserved t c =
    let around = around_of c.args.around.now in
    let place = c.args.place in
    let how = c.args.how in
    let ps = c.args.parts.now in
    let vs = c.args.values.now in
    let k = c.loop-index.index in
    let p = c.index-parts-index.result in
    let x = c.in-Some.value.now in
    let value : slice_get vs k ≡ Some x = sym c.value_at.ensures ∙ ap option_copied c.in-Some.is in
    let first = matched p around (inside how) x in
    let whole = each_match place (map look (drop k ps)) around how (drop k vs) in
    let rest = each_match place (map look (drop (k + 1) ps)) around how (drop (k + 1) vs) in
    let opens = parts_more place ps vs around how k p x c.loop-index-test.true c.index-parts-index.is value in
    let v = seen c.loop-index.walking in
    let w = seen c.match_pattern.new.walking in
    let is : c.in_ok-match_pattern-in-Some.field-0 ≡ got first v =
    c.in_ok-match_pattern-in-Some.ensures.found ∙ ap (λ (h : Matching). got (matched p around h x) v) c.inside.ensures in
    let was : w ≡ run first v = c.in_ok-match_pattern-in-Some.ensures.walked ∙ ap (λ (h : Matching). run (matched p around h x) v) c.inside.ensures in record {
      found = more_got c.loop-index.found c.append.new.self c.in_ok-match_pattern-in-Some.field-0 whole first rest v w c.in_ok-append-in-Some.ensures.appended
          is was opens ∙ c.loop-index.invariant.found;
      walked = more_run whole first rest v w was opens ∙ c.loop-index.invariant.walked;
    }

pub several::match_parts-returns : goal.several::match_parts-returns
several::match_parts-returns t c =
    let around = around_of c.args.around.now in
    let place = c.args.place in
    let ps = c.args.parts.now in
    let vs = c.args.values.now in
    let v = seen c.args.walking.now in
    let counted = λ (n : ℕ). if nat_eq n (length vs) then each_match place (map look ps) around c.args.how vs else wrong_pattern place in
    let is = ap counted (sym (as_many ps)) in
    record {
      found = found_as c.match_counted.result _ _ v is c.match_counted.ensures.found;
      walked = left_as c.match_counted.result _ _ v _ is c.match_counted.ensures.walked;
    }

pub several::match_counted-returns-then-as_many : goal.several::match_counted-returns-then-as_many
several::match_counted-returns-then-as_many t c =
    let v = seen c.args.walking.now in
    let met = each_match c.args.place (map look c.args.parts.now) (around_of c.args.around.now) c.args.how c.args.values.now in
    let is = ap (λ (b : Bool). if b then met else wrong_pattern c.args.place) (sym c.if-as_many.true) in
    record {
      found = found_as c.match_each.result _ _ v is c.match_each.ensures.found;
      walked = left_as c.match_each.result _ _ v _ is c.match_each.ensures.walked;
    }

pub several::match_counted-returns-else-as_many : goal.several::match_counted-returns-else-as_many
several::match_counted-returns-else-as_many t c =
    let v = seen c.args.walking.now in
    let met = each_match c.args.place (map look c.args.parts.now) (around_of c.args.around.now) c.args.how c.args.values.now in
    let is = ap (λ (b : Bool). if b then met else wrong_pattern c.args.place) (sym c.if-as_many.false) in
    record {
      found = found_as c.wrong_pattern.result _ _ v is c.wrong_pattern.ensures.found;
      walked = left_as c.wrong_pattern.result _ _ v _ is c.wrong_pattern.ensures.walked;
    }

pub parts::match_pattern-returns : goal.parts::match_pattern-returns
parts::match_pattern-returns t c =
    let v = seen c.args.walking.now in
    let is = sym (matched_is c.args.pattern.now c.as_slice.result.now (around_of c.args.around.now) c.args.how c.args.indices.now c.as_slice.ensures) in
    record {
      found = found_as c.match_form.result _ _ v is c.match_form.ensures.found;
      walked = left_as c.match_form.result _ _ v _ is c.match_form.ensures.walked;
    }

pub parts::match_form-returns-in-Any : goal.parts::match_form-returns-in-Any
parts::match_form-returns-in-Any t c =
    let v = seen c.args.walking.now in
    let ps = map look c.args.parts.now in
    let is = ap (λ (f : Form). form_match c.args.place f ps (around_of c.args.around.now) c.args.how c.args.indices.now) (sym c.in-Any.is) in
    record { found = found_as c.match_any.result _ _ v is c.match_any.ensures.found; walked = left_as c.match_any.result _ _ v _ is c.match_any.ensures.walked }

pub parts::match_form-returns-in-Binds : goal.parts::match_form-returns-in-Binds
parts::match_form-returns-in-Binds t c =
    let v = seen c.args.walking.now in
    let ps = map look c.args.parts.now in
    let is = ap (λ (f : Form). form_match c.args.place f ps (around_of c.args.around.now) c.args.how c.args.indices.now) (sym c.in-Binds.is) in
    record {
      found = found_as c.match_name.result _ _ v is c.match_name.ensures.found;
      walked = left_as c.match_name.result _ _ v _ is c.match_name.ensures.walked;
    }

pub parts::match_form-returns-in-As : goal.parts::match_form-returns-in-As
parts::match_form-returns-in-As t c =
    let v = seen c.args.walking.now in
    let ps = map look c.args.parts.now in
    let is = ap (λ (f : Form). form_match c.args.place f ps (around_of c.args.around.now) c.args.how c.args.indices.now) (sym c.in-As.is) in
    record { found = found_as c.match_as.result _ _ v is c.match_as.ensures.found; walked = left_as c.match_as.result _ _ v _ is c.match_as.ensures.walked }

pub parts::match_form-returns-in-Typed : goal.parts::match_form-returns-in-Typed
parts::match_form-returns-in-Typed t c =
    let v = seen c.args.walking.now in
    let ps = map look c.args.parts.now in
    let is = ap (λ (f : Form). form_match c.args.place f ps (around_of c.args.around.now) c.args.how c.args.indices.now) (sym c.in-Typed.is) in
    record {
      found = found_as c.match_typed.result _ _ v is c.match_typed.ensures.found;
      walked = left_as c.match_typed.result _ _ v _ is c.match_typed.ensures.walked;
    }

pub parts::match_form-returns-in-Opens : goal.parts::match_form-returns-in-Opens
parts::match_form-returns-in-Opens t c =
    let v = seen c.args.walking.now in
    let ps = map look c.args.parts.now in
    let is = ap (λ (f : Form). form_match c.args.place f ps (around_of c.args.around.now) c.args.how c.args.indices.now) (sym c.in-Opens.is) in
    record {
      found = found_as c.match_opened.result _ _ v is c.match_opened.ensures.found;
      walked = left_as c.match_opened.result _ _ v _ is c.match_opened.ensures.walked;
    }

pub parts::match_form-returns-in-Maps : goal.parts::match_form-returns-in-Maps
parts::match_form-returns-in-Maps t c =
    let v = seen c.args.walking.now in
    let ps = map look c.args.parts.now in
    let is = ap (λ (f : Form). form_match c.args.place f ps (around_of c.args.around.now) c.args.how c.args.indices.now) (sym c.in-Maps.is) in
    record {
      found = found_as c.match_maps.result _ _ v is c.match_maps.ensures.found;
      walked = left_as c.match_maps.result _ _ v _ is c.match_maps.ensures.walked;
    }

pub parts::match_form-returns-in-Sees : goal.parts::match_form-returns-in-Sees
parts::match_form-returns-in-Sees t c =
    let v = seen c.args.walking.now in
    let ps = map look c.args.parts.now in
    let is = ap (λ (f : Form). form_match c.args.place f ps (around_of c.args.around.now) c.args.how c.args.indices.now) (sym c.in-Sees.is) in
    record {
      found = found_as c.match_sees.result _ _ v is c.match_sees.ensures.found;
      walked = left_as c.match_sees.result _ _ v _ is c.match_sees.ensures.walked;
    }

pub parts::match_maps-returns-in-len1 : goal.parts::match_maps-returns-in-len1
parts::match_maps-returns-in-len1 t c =
    let i = c.args.indices.now in
    let v = seen c.args.walking.now in
    let one = one_of c.args.parts.now c.part-item.result c.in-len1.len_at_least c.in-len1.len_below c.part-item.is in
    let is = ap (λ (ps : List Pattern). form_match c.args.place (F.Maps c.args.number) (map look ps) (around_of c.args.around.now) c.args.how i) (sym one) in
    record {
      found = found_as c.match_maps_to.result _ _ v is c.match_maps_to.ensures.found;
      walked = left_as c.match_maps_to.result _ _ v _ is c.match_maps_to.ensures.walked;
    }

pub parts::match_maps_to-returns-in_ok-given-in-Some : goal.parts::match_maps_to-returns-in_ok-given-in-Some
parts::match_maps_to-returns-in_ok-given-in-Some t c =
    let around = around_of c.args.around.now in
    let i = c.args.indices.now in
    let n = c.args.number in
    let p = look c.args.part.now in
    let v = seen c.args.walking.now in
    let m = c.in-Some.direction.now in
    let held : slice_get around.directions n ≡ Some m = sym c.direction.ensures ∙ ap option_copied c.in-Some.is in
    let given = ap (λ (r : Reading). given_met c.args.place n m r p around c.args.how i) c.in_ok-given-in-Some.ensures in
    let is = given ∙ ap (λ (d : Option Direction). direction_met c.args.place n d result_of p around c.args.how i) (sym held) in
    record {
      found = found_as c.match_direction.result _ _ v is c.match_direction.ensures.found;
      walked = left_as c.match_direction.result _ _ v _ is c.match_direction.ensures.walked;
    }

pub parts::match_maps_to-returns-in-None : goal.parts::match_maps_to-returns-in-None
parts::match_maps_to-returns-in-None t c =
    let around = around_of c.args.around.now in
    let n = c.args.number in
    let v = seen c.args.walking.now in
    let none : slice_get around.directions n ≡ None = sym c.direction.ensures ∙ ap option_copied c.in-None.is in
    let is = ap (λ (d : Option Direction). direction_met c.args.place n d result_of (look c.args.part.now) around c.args.how c.args.indices.now) (sym none) in
    record {
      found = found_as c.wrong_pattern.result _ _ v is c.wrong_pattern.ensures.found;
      walked = left_as c.wrong_pattern.result _ _ v _ is c.wrong_pattern.ensures.walked;
    }

pub parts::match_sees-returns-in-len1 : goal.parts::match_sees-returns-in-len1
parts::match_sees-returns-in-len1 t c =
    let i = c.args.indices.now in
    let v = seen c.args.walking.now in
    let one = one_of c.args.parts.now c.part-item.result c.in-len1.len_at_least c.in-len1.len_below c.part-item.is in
    let is = ap (λ (ps : List Pattern). form_match c.args.place (F.Sees c.args.number) (map look ps) (around_of c.args.around.now) c.args.how i) (sym one) in
    record {
      found = found_as c.match_sees_to.result _ _ v is c.match_sees_to.ensures.found;
      walked = left_as c.match_sees_to.result _ _ v _ is c.match_sees_to.ensures.walked;
    }

pub parts::match_sees_to-returns-in_ok-given-in-Some : goal.parts::match_sees_to-returns-in_ok-given-in-Some
parts::match_sees_to-returns-in_ok-given-in-Some t c =
    let around = around_of c.args.around.now in
    let i = c.args.indices.now in
    let n = c.args.number in
    let p = look c.args.part.now in
    let v = seen c.args.walking.now in
    let m = c.in-Some.direction.now in
    let held : slice_get around.directions n ≡ Some m = sym c.direction.ensures ∙ ap option_copied c.in-Some.is in
    let given = ap (λ (r : Reading). given_met c.args.place n m r p around c.args.how i) c.in_ok-given-in-Some.ensures in
    let is = given ∙ ap (λ (d : Option Direction). direction_met c.args.place n d option_of p around c.args.how i) (sym held) in
    record {
      found = found_as c.match_direction.result _ _ v is c.match_direction.ensures.found;
      walked = left_as c.match_direction.result _ _ v _ is c.match_direction.ensures.walked;
    }

pub parts::match_sees_to-returns-in-None : goal.parts::match_sees_to-returns-in-None
parts::match_sees_to-returns-in-None t c =
    let around = around_of c.args.around.now in
    let n = c.args.number in
    let v = seen c.args.walking.now in
    let none : slice_get around.directions n ≡ None = sym c.direction.ensures ∙ ap option_copied c.in-None.is in
    let is = ap (λ (d : Option Direction). direction_met c.args.place n d option_of (look c.args.part.now) around c.args.how c.args.indices.now) (sym none) in
    record {
      found = found_as c.wrong_pattern.result _ _ v is c.wrong_pattern.ensures.found;
      walked = left_as c.wrong_pattern.result _ _ v _ is c.wrong_pattern.ensures.walked;
    }

pub heads::match_opened-returns-in-Never : goal.heads::match_opened-returns-in-Never
heads::match_opened-returns-in-Never t c =
    let around = around_of c.args.around.now in
    let ps = map look c.args.parts.now in
    let i = c.args.indices.now in
    let v = seen c.args.walking.now in
    let is = ap (λ (f : Indices-F Indices Reading). opens_met c.args.place c.args.head.now ps around c.args.how f) (sym (out_never i c.in-Never.is)) in
    record {
      found = found_as c.match_never.result _ _ v is c.match_never.ensures.found;
      walked = left_as c.match_never.result _ _ v _ is c.match_never.ensures.walked;
    }

pub heads::match_opened-returns-in_default : goal.heads::match_opened-returns-in_default
heads::match_opened-returns-in_default t c =
    let i = c.args.indices.now in
    let v = seen c.args.walking.now in
    let is = sym (not_never c.args.place (map look c.args.parts.now) (around_of c.args.around.now) c.args.how i c.args.head.now c.in_default.not-Never) in
    record {
      found = found_as c.match_head.result _ _ v is c.match_head.ensures.found;
      walked = left_as c.match_head.result _ _ v _ is c.match_head.ensures.walked;
    }

pub heads::match_head-returns-in-Is : goal.heads::match_head-returns-in-Is
heads::match_head-returns-in-Is t c =
    let ps = map look c.args.parts.now in
    let v = seen c.args.walking.now in
    let is = ap (λ (h : Head). head_met c.args.place h ps (around_of c.args.around.now) c.args.how (out-Indices c.args.indices.now)) (sym c.in-Is.is) in
    record {
      found = found_as c.meet_literal.result _ _ v is c.meet_literal.ensures.found;
      walked = left_as c.meet_literal.result _ _ v _ is c.meet_literal.ensures.walked;
    }

pub heads::match_head-returns-in-Tuple : goal.heads::match_head-returns-in-Tuple
heads::match_head-returns-in-Tuple t c =
    let ps = map look c.args.parts.now in
    let v = seen c.args.walking.now in
    let is = ap (λ (h : Head). head_met c.args.place h ps (around_of c.args.around.now) c.args.how (out-Indices c.args.indices.now)) (sym c.in-Tuple.is) in
    record {
      found = found_as c.match_tuple.result _ _ v is c.match_tuple.ensures.found;
      walked = left_as c.match_tuple.result _ _ v _ is c.match_tuple.ensures.walked;
    }

pub heads::match_head-returns-in-Constructor : goal.heads::match_head-returns-in-Constructor
heads::match_head-returns-in-Constructor t c =
    let ps = map look c.args.parts.now in
    let i = c.args.indices.now in
    let v = seen c.args.walking.now in
    let is = ap (λ (h : Head). head_met c.args.place h ps (around_of c.args.around.now) c.args.how (out-Indices i)) (sym c.in-Constructor.is) in
    record {
      found = found_as c.match_union.result _ _ v is c.match_union.ensures.found;
      walked = left_as c.match_union.result _ _ v _ is c.match_union.ensures.walked;
    }

pub heads::match_head-returns-in-Vector : goal.heads::match_head-returns-in-Vector
heads::match_head-returns-in-Vector t c =
    let ps = map look c.args.parts.now in
    let v = seen c.args.walking.now in
    let is = ap (λ (h : Head). head_met c.args.place h ps (around_of c.args.around.now) c.args.how (out-Indices c.args.indices.now)) (sym c.in-Vector.is) in
    record {
      found = found_as c.match_items_of_vector.result _ _ v is c.match_items_of_vector.ensures.found;
      walked = left_as c.match_items_of_vector.result _ _ v _ is c.match_items_of_vector.ensures.walked;
    }

pub heads::match_head-returns-in-List : goal.heads::match_head-returns-in-List
heads::match_head-returns-in-List t c =
    let ps = map look c.args.parts.now in
    let v = seen c.args.walking.now in
    let is = ap (λ (h : Head). head_met c.args.place h ps (around_of c.args.around.now) c.args.how (out-Indices c.args.indices.now)) (sym c.in-List.is) in
    record {
      found = found_as c.match_list.result _ _ v is c.match_list.ensures.found;
      walked = left_as c.match_list.result _ _ v _ is c.match_list.ensures.walked;
    }

pub heads::match_head-returns-in-Cons : goal.heads::match_head-returns-in-Cons
heads::match_head-returns-in-Cons t c =
    let ps = map look c.args.parts.now in
    let v = seen c.args.walking.now in
    let is = ap (λ (h : Head). head_met c.args.place h ps (around_of c.args.around.now) c.args.how (out-Indices c.args.indices.now)) (sym c.in-Cons.is) in
    record {
      found = found_as c.match_first.result _ _ v is c.match_first.ensures.found;
      walked = left_as c.match_first.result _ _ v _ is c.match_first.ensures.walked;
    }

pub heads::match_head-returns-in-Cut : goal.heads::match_head-returns-in-Cut
heads::match_head-returns-in-Cut t c =
    let i = c.args.indices.now in
    let v = seen c.args.walking.now in
    let cut = ap (λ (ws : List (Option Num)). H.Cut ws) c.as_slice.ensures ∙ sym c.in-Cut.is in
    let is = ap (λ (h : Head). head_met c.args.place h (map look c.args.parts.now) (around_of c.args.around.now) c.args.how (out-Indices i)) cut in
    record {
      found = found_as c.match_bits.result _ _ v is c.match_bits.ensures.found;
      walked = left_as c.match_bits.result _ _ v _ is c.match_bits.ensures.walked;
    }

pub heads::match_tuple-returns-in-Tuple : goal.heads::match_tuple-returns-in-Tuple
heads::match_tuple-returns-in-Tuple t c =
    let around = around_of c.args.around.now in
    let ps = map look c.args.parts.now in
    let v = seen c.args.walking.now in
    let is = sym (tuple_met c.args.place ps around c.args.how c.args.indices.now c.in-Tuple.values c.as_slice.result.now c.in-Tuple.is c.as_slice.ensures) in
    record {
      found = found_as c.match_parts.result _ _ v is c.match_parts.ensures.found;
      walked = left_as c.match_parts.result _ _ v _ is c.match_parts.ensures.walked;
    }

pub heads::match_tuple-returns-in_default : goal.heads::match_tuple-returns-in_default
heads::match_tuple-returns-in_default t c =
    let v = seen c.args.walking.now in
    let is = sym (not_tuple c.args.place (map look c.args.parts.now) (around_of c.args.around.now) c.args.how c.args.indices.now c.in_default.not-Tuple) in
    record {
      found = found_as c.wrong_pattern.result _ _ v is c.wrong_pattern.ensures.found;
      walked = left_as c.wrong_pattern.result _ _ v _ is c.wrong_pattern.ensures.walked;
    }

pub heads::match_union-returns-in-Named : goal.heads::match_union-returns-in-Named
heads::match_union-returns-in-Named t c =
    let around = around_of c.args.around.now in
    let ps = map look c.args.parts.now in
    let i = c.args.indices.now in
    let v = seen c.args.walking.now in
    let u = c.args.union in
    let k = c.args.constructor in
    let ns = c.as_slice.result.now in
    let rs = c.as_slice-in-Named.result.now in
    let own = c.in-Named.own in
    let opens = named_met c.args.place ps around c.args.how i u k own c.in-Named.numbers ns c.in-Named.types rs c.in-Named.is c.as_slice.ensures
    c.as_slice-in-Named.ensures in
    let counted = λ (n : ℕ). union_met c.args.place (is_union around u own rs) (constructor_met c.args.place ps around c.args.how
    (payload_readings (payload_types n (payload_in around.types u k)) ns rs)) in
    let is = sym (opens ∙ ap counted (as_many c.args.parts.now)) in
    record {
      found = found_as c.match_own.result _ _ v is c.match_own.ensures.found;
      walked = left_as c.match_own.result _ _ v _ is c.match_own.ensures.walked;
    }

pub heads::match_own-returns-then-is_union : goal.heads::match_own-returns-then-is_union
heads::match_own-returns-then-is_union t c =
    let around = around_of c.args.around.now in
    let v = seen c.args.walking.now in
    let inner = constructor_met c.args.place (map look c.args.parts.now) around c.args.how (payload_readings
    (payload_types (length c.args.parts.now) (payload_in around.types c.args.union c.args.constructor)) c.args.numbers.now c.args.types.now) in
    let is = ap (λ (b : Bool). union_met c.args.place b inner) (sym c.if-is_union.true ∙ c.is_union.ensures) in
    record {
      found = found_as c.match_constructor.result _ _ v is c.match_constructor.ensures.found;
      walked = left_as c.match_constructor.result _ _ v _ is c.match_constructor.ensures.walked;
    }

pub heads::match_own-returns-else-is_union : goal.heads::match_own-returns-else-is_union
heads::match_own-returns-else-is_union t c =
    let around = around_of c.args.around.now in
    let v = seen c.args.walking.now in
    let inner = constructor_met c.args.place (map look c.args.parts.now) around c.args.how (payload_readings
    (payload_types (length c.args.parts.now) (payload_in around.types c.args.union c.args.constructor)) c.args.numbers.now c.args.types.now) in
    let is = ap (λ (b : Bool). union_met c.args.place b inner) (sym c.if-is_union.false ∙ c.is_union.ensures) in
    record {
      found = found_as c.wrong_pattern.result _ _ v is c.wrong_pattern.ensures.found;
      walked = left_as c.wrong_pattern.result _ _ v _ is c.wrong_pattern.ensures.walked;
    }

pub heads::match_union-returns-in_default : goal.heads::match_union-returns-in_default
heads::match_union-returns-in_default t c =
    let ps = map look c.args.parts.now in
    let i = c.args.indices.now in
    let v = seen c.args.walking.now in
    let is = sym (not_named c.args.place ps (around_of c.args.around.now) c.args.how i c.args.union c.args.constructor c.in_default.not-Named) in
    record {
      found = found_as c.wrong_pattern.result _ _ v is c.wrong_pattern.ensures.found;
      walked = left_as c.wrong_pattern.result _ _ v _ is c.wrong_pattern.ensures.walked;
    }

pub heads::match_items_of_vector-returns-in-Vector : goal.heads::match_items_of_vector-returns-in-Vector
heads::match_items_of_vector-returns-in-Vector t c =
    let around = around_of c.args.around.now in
    let ps = map look c.args.parts.now in
    let i = c.args.indices.now in
    let v = seen c.args.walking.now in
    let is = sym (items_of c.args.place ps around c.args.how i c.in-Vector.length c.in-Vector.item c.get.result.now c.in-Vector.is c.get.ensures) in
    record {
      found = found_as c.match_vector.result _ _ v is c.match_vector.ensures.found;
      walked = left_as c.match_vector.result _ _ v _ is c.match_vector.ensures.walked;
    }

pub heads::match_items_of_vector-returns-in_default : goal.heads::match_items_of_vector-returns-in_default
heads::match_items_of_vector-returns-in_default t c =
    let v = seen c.args.walking.now in
    let is = sym (not_vector c.args.place (map look c.args.parts.now) (around_of c.args.around.now) c.args.how c.args.indices.now c.in_default.not-Vector) in
    record {
      found = found_as c.wrong_pattern.result _ _ v is c.wrong_pattern.ensures.found;
      walked = left_as c.wrong_pattern.result _ _ v _ is c.wrong_pattern.ensures.walked;
    }

pub heads::match_list-returns-in-List : goal.heads::match_list-returns-in-List
heads::match_list-returns-in-List t c =
    let ps = map look c.args.parts.now in
    let i = c.args.indices.now in
    let v = seen c.args.walking.now in
    let is = sym (list_met c.args.place ps (around_of c.args.around.now) c.args.how i c.in-List.item c.get.result.now c.in-List.is c.get.ensures) in
    record {
      found = found_as c.match_items.result _ _ v is c.match_items.ensures.found;
      walked = left_as c.match_items.result _ _ v _ is c.match_items.ensures.walked;
    }

pub heads::match_list-returns-in_default : goal.heads::match_list-returns-in_default
heads::match_list-returns-in_default t c =
    let v = seen c.args.walking.now in
    let is = sym (not_list c.args.place (map look c.args.parts.now) (around_of c.args.around.now) c.args.how c.args.indices.now c.in_default.not-List) in
    record {
      found = found_as c.wrong_pattern.result _ _ v is c.wrong_pattern.ensures.found;
      walked = left_as c.wrong_pattern.result _ _ v _ is c.wrong_pattern.ensures.walked;
    }

pub heads::match_first-returns-in-List : goal.heads::match_first-returns-in-List
heads::match_first-returns-in-List t c =
    let ps = map look c.args.parts.now in
    let i = c.args.indices.now in
    let v = seen c.args.walking.now in
    let is = sym (first_met c.args.place ps (around_of c.args.around.now) c.args.how i c.in-List.item c.get.result.now c.in-List.is c.get.ensures) in
    record {
      found = found_as c.match_cons.result _ _ v is c.match_cons.ensures.found;
      walked = left_as c.match_cons.result _ _ v _ is c.match_cons.ensures.walked;
    }

pub heads::match_first-returns-in_default : goal.heads::match_first-returns-in_default
heads::match_first-returns-in_default t c =
    let v = seen c.args.walking.now in
    let is = sym (not_first c.args.place (map look c.args.parts.now) (around_of c.args.around.now) c.args.how c.args.indices.now c.in_default.not-List) in
    record {
      found = found_as c.wrong_pattern.result _ _ v is c.wrong_pattern.ensures.found;
      walked = left_as c.wrong_pattern.result _ _ v _ is c.wrong_pattern.ensures.walked;
    }

pub heads::match_bits-returns-in-Bits : goal.heads::match_bits-returns-in-Bits
heads::match_bits-returns-in-Bits t c =
    let ps = map look c.args.parts.now in
    let v = seen c.args.walking.now in
    let is = sym (bits_met c.args.place ps (around_of c.args.around.now) c.args.how c.args.indices.now c.args.widths.now c.in-Bits.width c.in-Bits.is) in
    record { found = found_as c.match_cut.result _ _ v is c.match_cut.ensures.found; walked = left_as c.match_cut.result _ _ v _ is c.match_cut.ensures.walked }

pub heads::match_bits-returns-in_default : goal.heads::match_bits-returns-in_default
heads::match_bits-returns-in_default t c =
    let i = c.args.indices.now in
    let v = seen c.args.walking.now in
    let is = sym (not_bits c.args.place (map look c.args.parts.now) (around_of c.args.around.now) c.args.how i c.args.widths.now c.in_default.not-Bits) in
    record {
      found = found_as c.wrong_pattern.result _ _ v is c.wrong_pattern.ensures.found;
      walked = left_as c.wrong_pattern.result _ _ v _ is c.wrong_pattern.ensures.walked;
    }

pub parts::match_given-returns : goal.parts::match_given-returns
parts::match_given-returns t c =
    let around = around_of c.args.around.now in
    let r = c.args.given.now in
    let p = look c.args.part.now in
    let v = seen c.args.walking.now in
    let w = seen c.take_out.new.walking in
    let x = c.in_ok-taken.taken in
    let taking = taken_out c.args.place p.naming r in
    let is : x ≡ got taking v = c.in_ok-taken.ensures.taken ∙ ap (λ (n : Naming). got (taken_out c.args.place n r) v) c.in_ok-naming.ensures in
    let was : w ≡ run taking v = c.in_ok-taken.ensures.walked ∙ ap (λ (n : Naming). run (taken_out c.args.place n r) v) c.in_ok-naming.ensures in
    let inner = p.match_with around (inside c.args.how) in
    let same = ap (λ (h : Matching). p.match_with around h x) c.inside.ensures in
    record {
      found = taken_found c.match_pattern.result taking inner _ v w x same is was c.match_pattern.ensures.found;
      walked = taken_left c.match_pattern.result taking inner _ v w _ x same is was c.match_pattern.ensures.walked;
    }

pub several::match_constructor-returns : goal.several::match_constructor-returns
several::match_constructor-returns t c =
    let around = around_of c.args.around.now in
    let ps = map look c.args.parts.now in
    let v = seen c.args.walking.now in
    let w = seen c.take_all.new.walking in
    let readings = payload_readings (payload_types (length c.args.parts.now) (payload_in c.args.around.now.types.now c.args.union c.args.constructor))
    c.args.numbers.now c.args.types.now in
    let rs : c.as_slice.result.now ≡ readings = c.as_slice.ensures ∙ c.in_ok-readings.ensures
    ∙ (λ j. payload_readings (payload_types (length c.args.parts.now) (c.payload-payload.ensures j)) c.args.numbers.now c.args.types.now) in
    let taking = all_taken c.args.place (named_readings ps c.as_slice.result.now) in
    let inner = parts_match c.args.place ps around c.args.how in
    let whole = ap (λ (xs : List Reading). constructor_met c.args.place ps around c.args.how xs) rs in
    let same = ap inner c.as_slice-2.ensures in
    record {
      found = found_as c.match_parts.result _ _ v whole (taken_found c.match_parts.result taking inner _ v w c.in_ok-taken.taken same
          c.in_ok-taken.ensures.taken c.in_ok-taken.ensures.walked c.match_parts.ensures.found);
      walked = left_as c.match_parts.result _ _ v _ whole (taken_left c.match_parts.result taking inner _ v w _ c.in_ok-taken.taken same
          c.in_ok-taken.ensures.taken c.in_ok-taken.ensures.walked c.match_parts.ensures.walked);
    }

pub several::match_cut_parts-returns : goal.several::match_cut_parts-returns
several::match_cut_parts-returns t c =
    let v = seen c.args.walking.now in
    let w = seen c.cut_widths.new.walking in
    let widths = each (cut_width c.args.place c.args.rest.now) c.args.widths.now in
    let inner = parts_match c.args.place (map look c.args.parts.now) (around_of c.args.around.now) c.args.how in
    let same = ap inner c.as_slice.ensures in
    record {
      found = taken_found c.match_parts.result widths inner _ v w c.in_ok-values.values same c.in_ok-values.ensures.made c.in_ok-values.ensures.walked
          c.match_parts.ensures.found;
      walked = taken_left c.match_parts.result widths inner _ v w _ c.in_ok-values.values same c.in_ok-values.ensures.made c.in_ok-values.ensures.walked
          c.match_parts.ensures.walked;
    }

pub several::match_each-returns-in-None : goal.several::match_each-returns-in-None
several::match_each-returns-in-None t c =
    let around = around_of c.args.around.now in
    let k = c.loop-index.index in
    let v = seen c.loop-index.walking in
    let p = c.index-parts-index.result in
    let none : slice_get c.args.values.now k ≡ None = sym c.value_at.ensures ∙ ap option_copied c.in-None.is in
    let end = parts_short c.args.place c.args.parts.now c.args.values.now around c.args.how k p c.loop-index-test.true c.index-parts-index.is none in
    let wrong = wrong_pattern c.args.place in
    let names = ended_got c.loop-index.found _ wrong v _ end (wrong_got c.args.place v) c.loop-index.invariant.found in
    let walked = ap (λ (a : Walk (List Bound)). run a v) (sym end) ∙ c.loop-index.invariant.walked in
    record {
      found = subst (λ (z : List Bound). IfOk c.end_wrong.result (λ found. found ≡ z)) names c.end_wrong.ensures.found;
      walked = subst (λ (z : Written). OnOk c.end_wrong.result (seen c.end_wrong.new.walking ≡ z)) walked c.end_wrong.ensures.walked;
    }

pub several::match_each-returns-then-count-wanted : goal.several::match_each-returns-then-count-wanted
several::match_each-returns-then-count-wanted t c =
    let k = c.loop-index.index in
    let v = seen c.loop-index.walking in
    let end = parts_long c.args.place c.args.parts.now c.args.values.now (around_of c.args.around.now) c.args.how k (omega arith) (omega arith) in
    let wrong = wrong_pattern c.args.place in
    let names = ended_got c.loop-index.found _ wrong v _ end (wrong_got c.args.place v) c.loop-index.invariant.found in
    let walked = ap (λ (a : Walk (List Bound)). run a v) (sym end) ∙ c.loop-index.invariant.walked in
    let ended = c.end_wrong-then-count-wanted in
    record {
      found = subst (λ (z : List Bound). IfOk ended.result (λ found. found ≡ z)) names ended.ensures.found;
      walked = subst (λ (z : Written). OnOk ended.result (seen ended.new.walking ≡ z)) walked ended.ensures.walked;
    }

pub several::match_each-returns-else-count-wanted : goal.several::match_each-returns-else-count-wanted
several::match_each-returns-else-count-wanted t c =
    let k = c.loop-index.index in
    let v = seen c.loop-index.walking in
    let end = parts_end c.args.place c.args.parts.now c.args.values.now (around_of c.args.around.now) c.args.how k (omega arith) (omega arith) in
    record {
      found = ended_got c.loop-index.found _ no_names v _ end (got_give [] v) c.loop-index.invariant.found;
      walked = sym (run_give {A = List Bound} [] v) ∙ ap (λ (a : Walk (List Bound)). run a v) (sym end) ∙ c.loop-index.invariant.walked;
    }

pub several::match_items-returns : goal.several::match_items-returns
several::match_items-returns t c =
    let around = around_of c.args.around.now in
    let v = seen c.loop-part.walking in
    let end = items_end c.args.place c.args.parts.now around c.args.how c.args.item.now c.loop-part.part-index c.loop-part-test.false in
    record {
      found = ended_got c.loop-part.found _ no_names v _ end (got_give [] v) c.loop-part.invariant.found;
      walked = sym (run_give {A = List Bound} [] v) ∙ ap (λ (a : Walk (List Bound)). run a v) (sym end) ∙ c.loop-part.invariant.walked;
    }

pub several::match_never-returns : goal.several::match_never-returns
several::match_never-returns t c =
    let v = seen c.loop-part.walking in
    let end = never_end c.args.parts.now (around_of c.args.around.now) c.args.how c.loop-part.part-index c.loop-part-test.false in
    record {
      found = ended_got c.loop-part.found _ no_names v _ end (got_give [] v) c.loop-part.invariant.found;
      walked = sym (run_give {A = List Bound} [] v) ∙ ap (λ (a : Walk (List Bound)). run a v) (sym end) ∙ c.loop-part.invariant.walked;
    }
