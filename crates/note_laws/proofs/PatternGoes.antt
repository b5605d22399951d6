-- A pattern goes through the mappings that stand in it.
use Rattle.std.specs.Prelude.{ℕ, pos, nat_eq, Bool, true, false, List, [], ◌∷◌, length, map, slice_get, Option, Some, None}
use Rattle.std.proofs.Common.{◌≡◌, ◌∙◌, refl, sym, subst}
use Rattle.std.specs.Prelude.{is_some}
use Rattle.std.specs.List.{list_all}
use Rattle.std.proofs.lemmas.Bool.{and_parts}
use Rattle.sail_base.specs.declared.place.Place.{Place}
use Rattle.sail_types.specs.Named.{payload}
use Rattle.sail_types.specs.Sums.{and_then, constant, difference}
use Rattle.sail_types.specs.declared.numbers.Num.{Num}
use Rattle.sail_core.specs.declared.patterns.Arm.{Arm}
use Rattle.sail_core.specs.declared.patterns.Arm.TheVariants as A
use Rattle.sail_core.specs.declared.patterns.Form.{Form}
use Rattle.sail_core.specs.declared.patterns.Form.TheVariants as F
use Rattle.sail_core.specs.declared.patterns.Head.{Head}
use Rattle.sail_core.specs.declared.patterns.Head.TheVariants as H
use Rattle.sail_core.specs.declared.patterns.Pattern.{Pattern, Pattern-F}
use Rattle.sail_core.specs.declared.model.Direction.{Direction}
use Rattle.sail_core.specs.declared.written.Written.{Written}
use Rattle.value_indices.specs.declared.indices.Indices.{Indices, out-Indices}
use Rattle.value_indices.specs.declared.indices.Indices.TheVariants as I
use Rattle.value_indices.specs.declared.indices.Indices.TheOpen as W
use Rattle.value_indices.specs.declared.indices.Indices.TheOpen.{Indices-F}
use Rattle.value_indices.specs.declared.indices.Reading.{Reading}
use Rattle.value_indices.specs.declared.indices.Reading.TheVariants as R
use Rattle.value_indices.specs.declared.indices.Naming.{Naming}
use Rattle.value_indices.specs.declared.notes.Fact.{Fact}
use Rattle.value_indices.specs.Steps.{Walk}
use Rattle.value_indices.specs.Opening.{equal}
use Rattle.value_fits.specs.Fitting.{fits}
use Rattle.pattern_leaves.specs.declared.names.Bound.{Bound}
use Rattle.pattern_leaves.specs.Settings.{Around, written_in}
use Rattle.pattern_leaves.specs.Payloads.{payload_types, payload_readings}
use Rattle.pattern_leaves.specs.Widths.{first_sum}
use Rattle.pattern_notes.specs.declared.matching.Matching.{Matching}
use Rattle.pattern_notes.specs.Patterns.{inside, also, each_match, parts_match, named_readings, taken_out, all_taken, constructor_met, item_met, items_met}
use Rattle.pattern_notes.specs.Patterns.{cons_met, after_inner, length_owed, vector_met, cut_parts, cut_met, union_met, is_union, head_met, each_met_never}
use Rattle.pattern_notes.specs.Patterns.{opens_met, annotation_owed, written_owed, annotated_met, typed_met}
use Rattle.pattern_notes.specs.Patterns.{parameter_owed, given_met, direction_met, result_of, option_of}
use Rattle.pattern_notes.specs.Patterns.{name_behind, nothing_met, name_met, form_match, look_form, look, looks, arm_match, one_match, Look}
use Rattle.sail_core.specs.declared.patterns.Pattern.{roll-Pattern, map-Pattern, fold-roll-Pattern, ind-Pattern}
use Rattle.note_laws.proofs.Goes.{Goes, IsTabled, Every, LookGoes, PatternGoes, ArmGoes, give_goes}
use Rattle.note_laws.proofs.Goes.{bind_goes, if_goes, note_goes, facts_here_goes, owe_under_goes, owe_fit_under_goes, each_goes, tabled_has}
use Rattle.note_laws.specs.Ways.{Told, form_reached, has_direction, node_reached, pattern_reached}
use Rattle.note_laws.proofs.LeafGoes.{cut_owed_goes, cut_width_goes, exponents_owed_goes, literal_met_goes, no_names_goes, wrong_pattern_goes}
use Rattle.note_laws.proofs.OpeningGoes.{opened_for_goes}

module _ (told : Told) where
  pub nothing_met_goes : (place : Place) (ps : List Look) → Every (LookGoes told) ps → Goes told (nothing_met place ps)
  nothing_met_goes place [] looks_go = no_names_goes told
  nothing_met_goes place ps ps_go = wrong_pattern_goes told place

  pub name_met_goes : (place : Place) (name : List ℕ) (ps : List Look) → Every (LookGoes told) ps → (i : Indices) → Goes told (name_met place name ps i)
  name_met_goes place name [] looks_go i = give_goes told _
  name_met_goes place name ps ps_go i = wrong_pattern_goes told place

  pub name_behind_goes : (name : List ℕ) (i : Indices) (found : List Bound) → Goes told (name_behind name i found)
  name_behind_goes name i found = give_goes told _

  pub after_inner_goes : (inner : Walk (List Bound)) → Goes told inner → (owes : (List Fact → Walk (Unit {0}))) → ((a : List Fact) → Goes told (owes a))
      → Goes told (after_inner inner owes)
  unfolding after_inner
  after_inner_goes inner inner_go owes owes_go =
      bind_goes told _ _ (facts_here_goes told)
      (λ earlier. bind_goes told _ _ inner_go (λ found. bind_goes told _ _ (owes_go earlier) (λ t. give_goes told _)))

  pub annotation_owed_goes : (around : Around) (place : Place) (c : Bool) (i : Indices) (r : Reading) (earlier : List Fact)
      → Goes told (annotation_owed around place c i r earlier)
  annotation_owed_goes around place true i r earlier = give_goes told _
  annotation_owed_goes around place false i r earlier = owe_fit_under_goes told earlier place (fits around.types i r)

  pub written_owed_goes : (around : Around) (place : Place) (w : Written) (is_owed : Bool) (i : Indices) (earlier : List Fact)
      → Goes told (written_owed around place w is_owed i earlier)
  written_owed_goes around place w is_owed i earlier =
      bind_goes told _ _ (exponents_owed_goes told around w.numbers) (λ t. annotation_owed_goes around place is_owed i (written_in around w) earlier)

  pub annotated_met_goes : (place : Place) (w : Written) (p : Look) → LookGoes told p
      → (around : Around) (tabled : IsTabled told around) (how : Matching) (i : Indices)
      → Goes told (annotated_met place w p around how i)
  annotated_met_goes place w p p_go around tabled how i =
      after_inner_goes _ (p_go around tabled (inside how) i) _ (written_owed_goes around place w how.is_owed i)

  pub typed_met_goes : (place : Place) (w : Written) (p : Look) → LookGoes told p
      → (around : Around) (tabled : IsTabled told around) (how : Matching) (i : Indices)
      → Goes told (typed_met place w p around how i)
  typed_met_goes place w p p_go around tabled how i = bind_goes told _ _ (annotated_met_goes place w p p_go around tabled how i) (λ found. give_goes told _)

  pub also_goes : (first : Walk (List Bound)) → Goes told first → (next : Walk (List Bound)) → Goes told next → Goes told (also first next)
  unfolding also
  also_goes first first_go next next_go = bind_goes told _ _ first_go (λ found. bind_goes told _ _ next_go (λ more. give_goes told _))

  pub each_met_never_goes : (ps : List Look) → Every (LookGoes told) ps → (around : Around) (tabled : IsTabled told around) (how : Matching)
      → Goes told (each_met_never ps around how)
  each_met_never_goes [] looks_go around tabled how = no_names_goes told
  each_met_never_goes (p ∷ ps) looks_go around tabled how =
      also_goes _ (looks_go.0 around tabled (inside how) I.Never) _ (each_met_never_goes ps looks_go.1 around tabled how)

  pub each_match_goes : (place : Place) (ps : List Look) → Every (LookGoes told) ps
      → (around : Around) (tabled : IsTabled told around) (how : Matching) (is : List Indices)
      → Goes told (each_match place ps around how is)
  each_match_goes place [] looks_go around tabled how [] = no_names_goes told
  each_match_goes place (p ∷ ps) looks_go around tabled how (i ∷ is) =
      also_goes _ (looks_go.0 around tabled (inside how) i) _ (each_match_goes place ps looks_go.1 around tabled how is)
  each_match_goes place ps ps_go around tabled how is = wrong_pattern_goes told place

  pub parts_match_goes : (place : Place) (ps : List Look) → Every (LookGoes told) ps
      → (around : Around) (tabled : IsTabled told around) (how : Matching) (is : List Indices)
      → Goes told (parts_match place ps around how is)
  parts_match_goes place ps ps_go around tabled how is =
      if_goes told (nat_eq (length ps) (length is)) _ _ (each_match_goes place ps ps_go around tabled how is) (wrong_pattern_goes told place)

  pub union_met_goes : (place : Place) (b : Bool) (met : Walk (List Bound)) → Goes told met → Goes told (union_met place b met)
  union_met_goes place true met met_go = met_go
  union_met_goes place false met met_go = wrong_pattern_goes told place

  pub taken_out_goes : (place : Place) (naming : Naming) (r : Reading) → Goes told (taken_out place naming r)
  taken_out_goes place naming r = bind_goes told _ _ (note_goes told _ (λ facts. tt)) (λ t. opened_for_goes told naming r)

  pub all_taken_goes : (place : Place) (rs : List (Naming × Reading)) → Goes told (all_taken place rs)
  all_taken_goes place [] = give_goes told _
  all_taken_goes place (r ∷ rs) =
      bind_goes told _ _ (taken_out_goes place r.0 r.1) (λ i. bind_goes told _ _ (all_taken_goes place rs) (λ is. give_goes told _))

  pub constructor_met_goes : (place : Place) (ps : List Look) → Every (LookGoes told) ps
      → (around : Around) (tabled : IsTabled told around) (how : Matching) (rs : List Reading)
      → Goes told (constructor_met place ps around how rs)
  constructor_met_goes place ps ps_go around tabled how rs =
      bind_goes told _ _ (all_taken_goes place (named_readings ps rs)) (parts_match_goes place ps ps_go around tabled how)

  pub item_met_goes : (place : Place) (p : Look) → LookGoes told p → (around : Around) (tabled : IsTabled told around) (how : Matching) (r : Reading)
      → Goes told (item_met place p around how r)
  item_met_goes place p p_go around tabled how r = bind_goes told _ _ (taken_out_goes place p.naming r) (p_go around tabled (inside how))

  pub items_met_goes : (place : Place) (ps : List Look) → Every (LookGoes told) ps
      → (around : Around) (tabled : IsTabled told around) (how : Matching) (r : Reading)
      → Goes told (items_met place ps around how r)
  items_met_goes place [] looks_go around tabled how r = no_names_goes told
  items_met_goes place (p ∷ ps) looks_go around tabled how r =
      also_goes _ (item_met_goes place p looks_go.0 around tabled how r) _ (items_met_goes place ps looks_go.1 around tabled how r)

  pub length_owed_goes : (place : Place) (count : ℕ) (n : Num) (earlier : List Fact) → Goes told (length_owed place count n earlier)
  length_owed_goes place count n earlier = owe_under_goes told earlier place (Some (equal (constant (pos count)) n) ∷ [])

  pub vector_met_goes : (place : Place) (ps : List Look) → Every (LookGoes told) ps
      → (around : Around) (tabled : IsTabled told around) (how : Matching) (n : Num) (r : Reading)
      → Goes told (vector_met place ps around how n r)
  vector_met_goes place ps ps_go around tabled how n r =
      after_inner_goes _ (items_met_goes place ps ps_go around tabled how r) _ (length_owed_goes place (length ps) n)

  pub cons_met_goes : (place : Place) (ps : List Look) → Every (LookGoes told) ps
      → (around : Around) (tabled : IsTabled told around) (how : Matching) (r : Reading)
      → Goes told (cons_met place ps around how r)
  cons_met_goes place (p ∷ q ∷ []) looks_go around tabled how r =
      also_goes _ (item_met_goes place p looks_go.0 around tabled how r) _ (looks_go.1.0 around tabled (inside how) (I.List r))
  cons_met_goes place ps ps_go around tabled how r = wrong_pattern_goes told place

  pub cut_parts_goes : (place : Place) (ps : List Look) → Every (LookGoes told) ps
      → (around : Around) (tabled : IsTabled told around) (how : Matching) (ws : List (Option Num)) (rest : Option Num)
      → Goes told (cut_parts place ps around how ws rest)
  cut_parts_goes place ps ps_go around tabled how ws rest =
      bind_goes told _ _ (each_goes told _ (cut_width_goes told place rest) ws) (parts_match_goes place ps ps_go around tabled how)

  pub cut_met_goes : (place : Place) (ps : List Look) → Every (LookGoes told) ps
      → (around : Around) (tabled : IsTabled told around) (how : Matching) (ws : List (Option Num)) (w : Num)
      → Goes told (cut_met place ps around how ws w)
  cut_met_goes place ps ps_go around tabled how ws w =
      after_inner_goes _ (cut_parts_goes place ps ps_go around tabled how ws (and_then (first_sum ws) (difference w))) _ (cut_owed_goes told place ws w)

  pub head_met_goes : (place : Place) (head : Head) (ps : List Look) → Every (LookGoes told) ps
      → (around : Around) (tabled : IsTabled told around) (how : Matching) (i : Indices-F Indices Reading) → Goes told (head_met place head ps around how i)
  head_met_goes place (H.Is literal) ps ps_go around tabled how i = literal_met_goes told place how.in_case literal i
  head_met_goes place H.Tuple ps ps_go around tabled how (W.Tuple is) = parts_match_goes place ps ps_go around tabled how is
  head_met_goes place (H.Constructor u c) ps ps_go around tabled how (W.Named v is rs) =
      union_met_goes place (is_union around u v rs) _
      (constructor_met_goes place ps ps_go around tabled how (payload_readings (payload_types (length ps) (payload around.types u c)) is rs))
  head_met_goes place H.Vector ps ps_go around tabled how (W.Vector n r) = vector_met_goes place ps ps_go around tabled how n r
  head_met_goes place H.List ps ps_go around tabled how (W.List r) = items_met_goes place ps ps_go around tabled how r
  head_met_goes place H.Cons ps ps_go around tabled how (W.List r) = cons_met_goes place ps ps_go around tabled how r
  head_met_goes place (H.Cut ws) ps ps_go around tabled how (W.Bits w) = cut_met_goes place ps ps_go around tabled how ws w
  head_met_goes place head ps ps_go around tabled how i = wrong_pattern_goes told place

  pub opens_met_goes : (place : Place) (head : Head) (ps : List Look) → Every (LookGoes told) ps
      → (around : Around) (tabled : IsTabled told around) (how : Matching) (i : Indices-F Indices Reading) → Goes told (opens_met place head ps around how i)
  opens_met_goes place head ps ps_go around tabled how W.Never = each_met_never_goes ps ps_go around tabled how
  opens_met_goes place head ps ps_go around tabled how i = head_met_goes place head ps ps_go around tabled how i

  pub parameter_owed_goes : (around : Around) (place : Place) (m : Direction) (i : Indices) (earlier : List Fact)
      → Goes told (parameter_owed around place m i earlier)
  parameter_owed_goes around place m i earlier = owe_fit_under_goes told earlier place (fits around.types i (R.Of m.parameter [] []))

  given_met_goes : (place : Place) (d : ℕ) → told.reached d ≡ true → has_direction told.directions d ≡ true → (m : Direction) (given : Reading) (p : Look)
      → LookGoes told p → (around : Around) (tabled : IsTabled told around) (how : Matching) (i : Indices)
      → Goes told (given_met place d m given p around how i)
  given_met_goes place d h there m given p p_go around tabled how i =
      bind_goes told _ _ (note_goes told _ (λ facts. (h, there))) (λ t.
      after_inner_goes _ (item_met_goes place p p_go around tabled how given) _ (parameter_owed_goes around place m i))

  direction_met_goes : (place : Place) (d : ℕ) → told.reached d ≡ true → (m : Option Direction) → (is_some m ≡ true → has_direction told.directions d ≡ true)
      → (gives : Direction → Reading) (p : Look) → LookGoes told p → (around : Around) (tabled : IsTabled told around) (how : Matching) (i : Indices)
      → Goes told (direction_met place d m gives p around how i)
  direction_met_goes place d h None there gives p p_go around tabled how i = wrong_pattern_goes told place
  direction_met_goes place d h (Some m) there gives p p_go around tabled how i = given_met_goes place d h (there refl) m (gives m) p p_go around tabled how i

  form_match_goes : (place : Place) (form : Form) → form_reached told.reached form ≡ true → (ps : List Look) → Every (LookGoes told) ps
      → (around : Around) (tabled : IsTabled told around)
      (how : Matching) (i : Indices) → Goes told (form_match place form ps around how i)
  form_match_goes place F.Any h ps ps_go around tabled how i = nothing_met_goes place ps ps_go
  form_match_goes place (F.Binds name) h ps ps_go around tabled how i = name_met_goes place name ps ps_go i
  form_match_goes place (F.As name) h (p ∷ []) go around tabled how i = bind_goes told _ _ (go.0 around tabled how i) (name_behind_goes name i)
  form_match_goes place (F.Typed w) h (p ∷ []) go around tabled how i = typed_met_goes place w p go.0 around tabled how i
  form_match_goes place (F.Opens head) h ps ps_go around tabled how i = opens_met_goes place head ps ps_go around tabled how (out-Indices i)
  form_match_goes place (F.Maps d) h (p ∷ []) go around tabled how i =
      direction_met_goes place d h (slice_get around.directions d) (tabled_has told around tabled d) result_of p go.0 around tabled how i
  form_match_goes place (F.Sees d) h (p ∷ []) go around tabled how i =
      direction_met_goes place d h (slice_get around.directions d) (tabled_has told around tabled d) option_of p go.0 around tabled how i
  form_match_goes place form h ps ps_go around tabled how i = wrong_pattern_goes told place

  -- ---- patterns and arms

  Such : Pattern → Type 0
  Such p = PatternGoes told p → LookGoes told (look p)

  abbrev Known : Type 0
  Known = (p : Pattern) × Such p

  such_parts : (ys : List Known) → list_all (λ b. b) (map (pattern_reached told.reached) (map (λ (y : Known). y.0) ys)) ≡ true
      → Every (LookGoes told) (map look (map (λ (y : Known). y.0) ys))
  unfolding Such
  such_parts [] h = tt
  such_parts (y ∷ ys) h =
      let k = and_parts (pattern_reached told.reached y.0) (list_all (λ b. b) (map (pattern_reached told.reached) (map (λ (y : Known). y.0) ys))) h in
      (y.1 k.0, such_parts ys k.1)

  such_form : (y : Pattern-F Known) → Such (roll-Pattern (map-Pattern Known Pattern (λ q. q.0) y))
  unfolding Such
  such_form y h =
      let bare : Pattern-F Pattern = map-Pattern Known Pattern (λ q. q.0) y in
      let k = and_parts (form_reached told.reached y.form) (list_all (λ b. b) (map (pattern_reached told.reached) (map (λ (q : Known). q.0) y.parts)))
      (sym (fold-roll-Pattern Bool (node_reached told.reached) bare) ∙ h) in
      subst (LookGoes told) (sym (fold-roll-Pattern Look look_form bare))
      (λ around tabled how i. form_match_goes y.place y.form k.0 (map look (map (λ (q : Known). q.0) y.parts)) (such_parts y.parts k.1) around tabled how i)

  such : (p : Pattern) → Such p
  such = ind-Pattern Such (λ e y is. subst (λ d. Such (roll-Pattern d)) is (such_form y))

  pub look_goes : (p : Pattern) → PatternGoes told p → LookGoes told (look p)
  unfolding Such
  look_goes p h = such p h

  looks_of : (ps : List Pattern) → Every (PatternGoes told) ps → Every (LookGoes told) (map look ps)
  looks_of [] h = tt
  looks_of (p ∷ ps) h = (look_goes p h.0, looks_of ps h.1)

  pub looks_goes : (arm : Arm) → ArmGoes told arm → Every (LookGoes told) (looks arm)
  looks_goes (A.Nested ps) h = looks_of ps h
  looks_goes (A.Flat count steps) h = tt

  pub one_match_goes : (place : Place) (ps : List Look) → Every (LookGoes told) ps
      → (around : Around) (tabled : IsTabled told around) (how : Matching) (i : Indices)
      → Goes told (one_match place ps around how i)
  one_match_goes place (p ∷ []) looks_go around tabled how i = looks_go.0 around tabled how i
  one_match_goes place ps ps_go around tabled how i = wrong_pattern_goes told place

  pub arm_match_goes : (place : Place) (arm : Arm) → ArmGoes told arm → (around : Around) (tabled : IsTabled told around) (how : Matching) (is : List Indices)
      → Goes told (arm_match place arm around how is)
  arm_match_goes place (A.Nested ps) h around tabled how is = parts_match_goes place (map look ps) (looks_of ps h) around tabled how is
  arm_match_goes place (A.Flat count steps) h around tabled how is = wrong_pattern_goes told place
