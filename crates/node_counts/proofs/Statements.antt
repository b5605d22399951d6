-- Operators on truths, branches, names that are bound, blocks, cases and loops note no more than their parts and their own node.
use Rattle.std.proofs.Common.{◌≡◌, ◌∙◌, refl, sym, ap, subst, ℕ, suc, ◌+◌, ◌≤◌, Bool, true, false, not, ◌&&◌, ◌++◌, List, [], ◌∷◌, Option, Some, None, is_none}
use Rattle.std.proofs.Common.{arith, length}
use Rattle.sail_base.specs.declared.place.Place.{Place}
use Rattle.sail_types.specs.Sums.{variable}
use Rattle.sail_types.specs.declared.numbers.Con.{Con}
use Rattle.sail_types.specs.declared.numbers.Con.TheVariants as C
use Rattle.sail_types.specs.declared.numbers.Num.{Num}
use Rattle.sail_types.specs.declared.shapes.Shape.{Shape}
use Rattle.sail_types.specs.declared.table.Types.{Types}
use Rattle.sail_core.specs.declared.patterns.Arm.{Arm}
use Rattle.sail_core.specs.declared.tree.Counting.{Counting}
use Rattle.sail_core.specs.declared.tree.Counting.TheVariants.{Down, Up}
use Rattle.sail_core.specs.declared.tree.Giver.TheVariants as Gives
use Rattle.sail_core.specs.declared.tree.Statement.{Statement}
use Rattle.sail_core.specs.declared.tree.Statement.TheVariants as S
use Rattle.sail_core.specs.declared.written.Written.{Written}
use Rattle.value_indices.specs.Steps.{Walk, bind, fresh_named, give, next_variable, scoped}
use Rattle.value_indices.specs.declared.indices.Indices.{Indices, out-Indices}
use Rattle.value_indices.specs.declared.indices.Indices.TheOpen as W
use Rattle.value_indices.specs.declared.indices.Indices.TheOpen.{Indices-F}
use Rattle.value_indices.specs.declared.indices.Indices.TheVariants as I
use Rattle.value_indices.specs.declared.indices.Indices.TheViews.{out-roll-Indices}
use Rattle.value_indices.specs.declared.indices.Reading.{Reading}
use Rattle.value_indices.specs.declared.notes.Made.TheVariants as Makes
use Rattle.wide_types.specs.Widening.{met, widened}
use Rattle.pattern_leaves.specs.Settings.{Around, Scope, bound, declared, exponents_owed, written_in}
use Rattle.pattern_notes.specs.Patterns.{arm_match, arm_written}
use Rattle.call_arguments.specs.Aims.{aimed, branch_aim, inner_aim, wanted}
use Rattle.call_arguments.specs.Holes.{without_holes}
use Rattle.call_arguments.specs.declared.aims.Aim.{Aim}
use Rattle.call_arguments.specs.declared.aims.Aim.TheVariants as Aims
use Rattle.call_notes.specs.Ends.{integer_number, sized, wrong_value}
use Rattle.call_notes.specs.Noted.{names_given, node_ended, node_given, node_made, numbers_noted}
use Rattle.expression_forms.specs.Meeting.{met_ways, thrown}
use Rattle.expression_forms.specs.Truths.{and_right, either, both, or_right, right_form}
use Rattle.expression_steps.specs.Parts.{Part, given_that, numbers_walk, truth_walk, under}
use Rattle.expression_steps.specs.Statements.{Way, and_under, and_walk, assert_state, bind_given, bind_names, block_end, block_walk, bounds_of}
use Rattle.expression_steps.specs.Statements.{branches_forms, case_names, case_walk, let_given}
use Rattle.expression_steps.specs.Statements.{case_ways, caught_at, claim_behind, counted, each_way, either_met, either_walk, first_behind}
use Rattle.expression_steps.specs.Statements.{foreach_walk, guarded, if_end, if_forms, if_state, if_under, if_ways, is_written, let_names, let_walk, loop_walk}
use Rattle.expression_steps.specs.Statements.{match_under, match_walk, measure_walk, measured, meeting, meeting_from, met_made, met_value, natural_type}
use Rattle.expression_steps.specs.Statements.{one_way, or_under, or_walk, owed_of_first, plain_state, step_owed, then_first, try_over, try_walk, try_way}
use Rattle.expression_steps.specs.Statements.{turn_begun, turn_named, turn_part, turn_walk, turns_walk, two_ways, under_claim, unit_form, unit_of, unit_under}
use Rattle.expression_steps.specs.Statements.{value_met, var_name, var_walk, way_behind, when_met, when_under, written_aim}
use Rattle.expression_steps.specs.declared.counting.Bounds.{Bounds}
use Rattle.node_counts.specs.Counts.{Counted, armed, arming, bit, form_may_give, giving, is_of, last_arms, making, may_give, own, weigh}
use Rattle.node_counts.proofs.Budgets.{leaves_bind, leaves_give, leaves_rest, within_claimed, within_left, within_scoped}
use Rattle.node_counts.proofs.Openings as Opened
use Rattle.node_counts.proofs.Widening as Met
use Rattle.node_counts.proofs.Patterns as Matched
use Rattle.node_counts.proofs.Weights.{Light, all_own, arms_all, arms_next, caught_own, lights, made_own, node_own}
use Rattle.node_counts.proofs.Nodes.{In, caught_light, few, fit_light, in_both, in_first, in_give, in_last, in_more, made_exact, next_light}
use Rattle.node_counts.proofs.Nodes.{names_given_in, node_in, opened_exact, owes_light, settled_light, sized_light, wrong_in}
use Rattle.node_counts.proofs.Parts.{Costed, condition_in, given_in, integer_light, numbers_in, parts_of, total, truth_in, under_in, walk_in}

module _ (q : Counted) where
  -- ---- operators on truths

  right_light : (place : Place) (join : Con → Con → Con) (alone c : Con) (form : Indices-F Indices Reading) → In q 0 (right_form place join alone c form)
  right_light place join alone c (W.Truth d) = in_give q (I.Truth (join c d))
  right_light place join alone c W.Never = in_give q (I.Truth alone)
  right_light place join alone c form = wrong_in q place

  pub and_in : (a b : Costed q) (around : Around) (scope : Scope) → In q (a.cost + b.cost) (and_walk a.part b.part around scope)
  and_in a b around scope = condition_in q b.cost a around scope (and_under b.part around scope) (λ c.
      in_last q (given_that c b.part around scope Aims.Free) (and_right b.part.place c) (given_in q c b around scope Aims.Free) (λ j.
      right_light b.part.place both (C.Truth false) c (out-Indices j)))

  pub or_in : (a b : Costed q) (around : Around) (scope : Scope) → In q (a.cost + b.cost) (or_walk a.part b.part around scope)
  or_in a b around scope = condition_in q b.cost a around scope (or_under b.part around scope) (λ c.
      in_last q (given_that (C.Not c) b.part around scope Aims.Free) (or_right b.part.place c) (given_in q (C.Not c) b around scope Aims.Free) (λ j.
      right_light b.part.place either (C.Truth true) c (out-Indices j)))

  -- ---- where ways meet

  abbrev pub WaysIn : ℕ → List Way → Type 0
  WaysIn b [] = Unit {0}
  WaysIn b (w ∷ ws) = (c d : ℕ) × (c + d ≤ b) × In q c w.walk × WaysIn d ws

  met_light : (types : Types) (m : ℕ) (shape : Shape) (i : Indices) → In q 0 (met types m shape i)
  met_light types m shape i = Met.met_kept (Light q) (lights q) types m shape i

  owed_light : (around : Around) (is_free : Bool) (place : Place) (never_ends : Bool) (m : ℕ) (first : Option Indices) (i : Indices)
      → In q 0 (owed_of_first around is_free place never_ends m first i)
  owed_light around true place never_ends m (Some first) i = fit_light q place _
  owed_light around true place never_ends m None i = in_give q tt
  owed_light around false place never_ends m first i = in_give q tt

  behind_in : {b : ℕ} (around : Around) (is_free : Bool) (m : ℕ) (shape : Shape) (w : Way) (first : Option Indices) → In q b w.walk
      → In q b (way_behind around is_free m shape w first)
  behind_in around is_free m shape w first h =
      in_last q w.walk (then_first around is_free m shape w first) h (λ i.
      in_first q (owed_of_first around is_free w.place w.never_ends m first i) (λ t. give (first_behind around is_free m shape w.never_ends first i))
      (owed_light around is_free w.place w.never_ends m first i) (λ t. in_give q (first_behind around is_free m shape w.never_ends first i)))

  ways_in : (b : ℕ) (around : Around) (is_free : Bool) (m : ℕ) (shape : Shape) (ws : List Way) (first : Option Indices) → WaysIn b ws
      → In q b (each_way around is_free m shape ws first)
  ways_in b around is_free m shape [] first h = in_give q first
  ways_in b around is_free m shape (w ∷ ws) first h =
      in_more q (each_way around is_free m shape (w ∷ ws) first) h.2
      (in_both q (one_way around is_free m shape w first) (each_way around is_free m shape ws)
      (within_scoped (weigh q) (way_behind around is_free m shape w first) (behind_in around is_free m shape w first h.3)) (λ o.
      ways_in h.1 around is_free m shape ws o h.4))

  abbrev exact : ℕ → ℕ
  exact k = bit (not q.gives && (not q.calls && is_of q k (I.Unit ∷ [])))

  met_ways_light : (around : Around) (place : Place) (m : ℕ) (shape : Shape) (o : Option Indices) → In q 0 (met_ways around place m shape o)
  met_ways_light around place m shape None = in_give q I.Never
  met_ways_light around place m shape (Some i) =
      in_first q (met around.types m shape i) (λ j. bind (sized place j) (λ t. give j)) (met_light around.types m shape i) (λ j.
      in_first q (sized place j) (λ t. give j) (sized_light q place j) (λ t. in_give q j))

  made_met : (around : Around) (place : Place) (k : ℕ) (shape : Shape) (r : Option Reading) (m : ℕ) (o : Option Indices)
      → In q (exact k) (met_made around place k shape r m o)
  made_met around place k shape None m o =
      in_first q (met_ways around place m shape o) (node_ended k (I.Unit ∷ [])) (met_ways_light around place m shape o) (λ i.
      in_last q (node_made k (I.Unit ∷ []) (Makes.ByIndices i)) (λ t. give i) (made_exact q k (I.Unit ∷ []) (Makes.ByIndices i)) (λ t. in_give q i))
  made_met around place k shape (Some r) m o = opened_exact q place k (I.Unit ∷ []) r

  meeting_exact : (b : ℕ) (around : Around) (place : Place) (k : ℕ) (shape : Shape) (r : Option Reading) (ws : List Way) → WaysIn b ws
      → In q (b + (exact k + giving q k)) (meeting around place k shape r ws)
  meeting_exact b around place k shape r ws h =
      in_first q next_variable (meeting_from around place k shape r ws) (next_light q) (λ m.
      in_both q (each_way around (is_none r) m shape ws None) (met_value around place k shape r m) (ways_in b around (is_none r) m shape ws None h) (λ o.
      in_both q (met_made around place k shape r m o) (node_given k) (made_met around place k shape r m o) (node_in q k)))

  pub meeting_in : (b : ℕ) (around : Around) (place : Place) (k : ℕ) (shape : Shape) (r : Option Reading) (ws : List Way) → WaysIn b ws
      → In q (own q k + b) (meeting around place k shape r ws)
  meeting_in b around place k shape r ws h =
      let l : exact k ≤ making q k = made_own q [] k (I.Unit ∷ []) (Makes.ByIndices I.Unit) in
      let n : making q k + giving q k ≤ own q k = node_own q k in
      in_more q (meeting around place k shape r ws) (omega (arith, l, n)) (meeting_exact b around place k shape r ws h)

  -- ---- `if`

  two_ways_in : (a b : Costed q) (around : Around) (scope : Scope) (aim : Aim) (c d : Con)
      → WaysIn (a.cost + b.cost) (two_ways a.part b.part around scope aim c d)
  two_ways_in a b around scope aim c d =
      (a.cost, b.cost, omega arith, under_in q c a around scope (branch_aim aim), (b.cost, 0, omega arith, under_in q d b around scope (branch_aim aim), tt))

  if_under_in : (place : Place) (k : ℕ) (shape : Shape) (a b : Costed q) (around : Around) (scope : Scope) (aim : Aim) (c : Con)
      → In q (own q k + (a.cost + b.cost)) (if_under place k shape a.part b.part around scope aim c)
  if_under_in place k shape a b around scope aim c =
      meeting_in (a.cost + b.cost) around place k shape (wanted aim) (if_ways a.part b.part around scope aim c) (two_ways_in a b around scope aim c (C.Not c))

  unit_light : (place : Place) (form : Indices-F Indices Reading) → In q 0 (unit_form place form)
  unit_light place W.Unit = in_give q I.Unit
  unit_light place W.Never = in_give q I.Unit
  unit_light place form = wrong_in q place

  when_under_in : (a : Costed q) (around : Around) (scope : Scope) (c : Con) → In q a.cost (when_under a.part around scope c)
  when_under_in a around scope c =
      in_last q (scoped (unit_under c a.part around scope)) (λ i. give I.Unit)
      (within_scoped (weigh q) (unit_under c a.part around scope)
      (in_last q (under c a.part around scope Aims.Free) (unit_of a.part.place) (under_in q c a around scope Aims.Free) (λ i.
      unit_light a.part.place (out-Indices i)))) (λ i. in_give q I.Unit)

  when_met_in : (a : Costed q) (around : Around) (scope : Scope) (o : Option Con) → In q a.cost (when_met a.part around scope o)
  when_met_in a around scope None = in_give q None
  when_met_in a around scope (Some c) =
      in_last q (when_under a.part around scope c) (λ i. give (Some (c, i))) (when_under_in a around scope c) (λ i. in_give q (Some (c, i)))

  either_met_in : (place : Place) (k : ℕ) (shape : Shape) (a b : Costed q) (around : Around) (scope : Scope) (aim : Aim) (o : Option Con)
      → In q (own q k + (a.cost + b.cost)) (either_met place k shape a.part b.part around scope aim o)
  either_met_in place k shape a b around scope aim None = in_give q None
  either_met_in place k shape a b around scope aim (Some c) =
      in_last q (if_under place k shape a.part b.part around scope aim c) (λ i. give (Some (c, i))) (if_under_in place k shape a b around scope aim c) (λ i.
      in_give q (Some (c, i)))

  pub branches_in : (place : Place) (k : ℕ) (shape : Shape) (ys : List (Costed q)) (around : Around) (scope : Scope) (aim : Aim)
      → In q (own q k + total q ys) (branches_forms place k shape (parts_of q ys) around scope aim)
  branches_in place k shape [] around scope aim = in_give q None
  branches_in place k shape (c ∷ []) around scope aim = in_give q None
  branches_in place k shape (c ∷ a ∷ []) around scope aim =
      in_more q (bind (truth_walk c.part around scope) (when_met a.part around scope)) (omega arith)
      (in_both q (truth_walk c.part around scope) (when_met a.part around scope) (truth_in q c around scope) (when_met_in a around scope))
  branches_in place k shape (c ∷ a ∷ b ∷ []) around scope aim =
      in_more q (either_walk place k shape c.part a.part b.part around scope aim) (omega arith)
      (in_both q (truth_walk c.part around scope) (either_met place k shape a.part b.part around scope aim) (truth_in q c around scope)
      (either_met_in place k shape a b around scope aim))
  branches_in place k shape (c ∷ a ∷ b ∷ d ∷ ys) around scope aim = in_give q None

  end_light : (place : Place) (ps : List Part) (around : Around) (aim : Aim) (m : Option (Con × Indices)) → In q 0 (if_end place ps around aim m)
  end_light place [] around aim m = wrong_in q place
  end_light place (c ∷ []) around aim m = wrong_in q place
  end_light place (c ∷ a ∷ []) around aim m = settled_light q around place (branch_aim aim) (value_met m)
  end_light place (c ∷ a ∷ b ∷ []) around aim m = in_give q (value_met m)
  end_light place (c ∷ a ∷ b ∷ d ∷ ps) around aim m = wrong_in q place

  pub if_in : (place : Place) (k : ℕ) (shape : Shape) (ys : List (Costed q)) (around : Around) (scope : Scope) (aim : Aim)
      → In q (own q k + total q ys) (if_forms place k shape (parts_of q ys) around scope aim)
  if_in place k shape ys around scope aim =
      in_last q (branches_forms place k shape (parts_of q ys) around scope aim) (if_end place (parts_of q ys) around aim)
      (branches_in place k shape ys around scope aim) (end_light place (parts_of q ys) around aim)

  -- ---- statements

  pub plain_in : {b : ℕ} (w : Walk Indices) → In q b w → In q b (plain_state w)
  plain_in w h = in_last q w (λ i. give None) h (λ i. in_give q None)

  claim_light : (place : Place) (ps : List Part) (m : Option (Con × Indices)) → In q 0 (claim_behind place ps m)
  claim_light place [] m = plain_in (wrong_value place) (wrong_in q place)
  claim_light place (c ∷ []) m = plain_in (wrong_value place) (wrong_in q place)
  claim_light place (c ∷ a ∷ []) m = in_give q _
  claim_light place (c ∷ a ∷ b ∷ []) m = in_give q _
  claim_light place (c ∷ a ∷ b ∷ d ∷ ps) m = plain_in (wrong_value place) (wrong_in q place)

  pub if_state_in : (place : Place) (k : ℕ) (shape : Shape) (ys : List (Costed q)) (around : Around) (scope : Scope)
      → In q (own q k + total q ys) (if_state place k shape (parts_of q ys) around scope)
  if_state_in place k shape ys around scope =
      in_last q (branches_forms place k shape (parts_of q ys) around scope Aims.Free) (claim_behind place (parts_of q ys))
      (branches_in place k shape ys around scope Aims.Free) (claim_light place (parts_of q ys))

  pub assert_state_in : (place : Place) (ys : List (Costed q)) (around : Around) (scope : Scope)
      → In q (total q ys) (assert_state place (parts_of q ys) around scope)
  assert_state_in place [] around scope = plain_in (wrong_value place) (wrong_in q place)
  assert_state_in place (a ∷ []) around scope = in_more q (truth_walk a.part around scope) (omega arith) (truth_in q a around scope)
  assert_state_in place (a ∷ b ∷ ys) around scope = plain_in (wrong_value place) (wrong_in q place)

  -- ---- names that are bound

  pub exponents_light : (around : Around) (w : Written) → In q 0 (exponents_owed around w.numbers)
  exponents_light around w = Matched.exponents_kept (Light q) (lights q) around w.numbers

  pub names_in : (place : Place) (arm : Arm) (a : Costed q) (around : Around) (scope : Scope) → In q a.cost (let_names place arm a.part around scope)
  names_in place arm a around scope =
      in_last q (a.part.walk around scope (written_aim around (arm_written arm)))
      (bind_names place arm around (is_written (arm_written arm) && a.part.is_nested))
      (walk_in q a around scope (written_aim around (arm_written arm))) (λ i.
      Matched.let_kept (Light q) (lights q) around place arm
      (record { in_case = false; is_owed = is_written (arm_written arm) && a.part.is_nested }) i)

  -- with the numbers that they give
  given_names_in : (k n : ℕ) (place : Place) (arm : Arm) (a : Costed q) (around : Around) (scope : Scope)
      → In q (a.cost + arming q k n) (let_given (Gives.Arm k n) place arm a.part around scope)
  given_names_in k n place arm a around scope =
      let owed : Bool = is_written (arm_written arm) && a.part.is_nested in
      in_both q (a.part.walk around scope (written_aim around (arm_written arm))) (bind_given (Gives.Arm k n) place arm around owed)
      (walk_in q a around scope (written_aim around (arm_written arm))) (λ i.
      in_first q (bind_names place arm around owed i) (names_given (Gives.Arm k n) (i ∷ []))
      (Matched.let_kept (Light q) (lights q) around place arm (record { in_case = false; is_owed = owed }) i) (λ found. names_given_in q k n (i ∷ []) found))

  pub let_in : (k n : ℕ) (place : Place) (arm : Arm) (a b : Costed q) (around : Around) (scope : Scope) (aim : Aim)
      → In q ((a.cost + arming q k n) + b.cost) (let_walk (Gives.Arm k n) place arm a.part b.part around scope aim)
  let_in k n place arm a b around scope aim =
      in_both q (let_given (Gives.Arm k n) place arm a.part around scope) (λ found. b.part.walk around (found ++ scope) (inner_aim aim))
      (given_names_in k n place arm a around scope) (λ found. walk_in q b around (found ++ scope) (inner_aim aim))

  var_name_in : (name : List ℕ) (written : Option Written) (a : Costed q) (around : Around) (scope : Scope)
      → In q a.cost (var_name name written a.part around scope)
  var_name_in name None a around scope =
      in_last q (a.part.walk around scope Aims.Free) (λ i. give (declared name (without_holes (widened i)) ∷ [])) (walk_in q a around scope Aims.Free)
      (λ i. in_give q _)
  var_name_in name (Some w) a around scope =
      in_first q (exponents_owed around w.numbers)
      (λ t. bind (a.part.walk around scope (aimed Aims.Due (written_in around w))) (λ i. give (declared name (written_in around w) ∷ [])))
      (exponents_light around w) (λ t.
      in_last q (a.part.walk around scope (aimed Aims.Due (written_in around w))) (λ i. give (declared name (written_in around w) ∷ []))
      (walk_in q a around scope (aimed Aims.Due (written_in around w))) (λ i. in_give q _))

  pub var_in : (name : List ℕ) (written : Option Written) (a b : Costed q) (around : Around) (scope : Scope) (aim : Aim)
      → In q (a.cost + b.cost) (var_walk name written a.part b.part around scope aim)
  var_in name written a b around scope aim =
      in_both q (var_name name written a.part around scope) (λ found. b.part.walk around (found ++ scope) (inner_aim aim))
      (var_name_in name written a around scope) (λ found. walk_in q b around (found ++ scope) (inner_aim aim))

  under_claim_in : {b : ℕ} (rest : Walk Indices) → In q b rest → (o : Option Con) → In q b (under_claim rest o)
  under_claim_in rest h None = h
  under_claim_in rest h (Some c) = within_claimed (weigh q) c rest h

  end_in : (place : Place) (ys : List (Costed q)) (around : Around) (scope : Scope) (aim : Aim)
      → In q (total q ys) (block_end place (parts_of q ys) around scope aim)
  end_in place [] around scope aim = settled_light q around place (inner_aim aim) I.Unit
  end_in place (y ∷ []) around scope aim =
      in_more q (y.part.walk around scope (inner_aim aim)) (omega arith) (walk_in q y around scope (inner_aim aim))
  end_in place (y ∷ z ∷ ys) around scope aim = wrong_in q place

  pub block_in : (place : Place) (k : ℕ) (ss : List Statement) (ys : List (Costed q)) (around : Around) (scope : Scope) (aim : Aim)
      → In q (last_arms q k (length ss) + total q ys) (block_walk place k ss (parts_of q ys) around scope aim)
  block_in place k [] ys around scope aim =
      in_more q (block_end place (parts_of q ys) around scope aim) (omega arith) (end_in place ys around scope aim)
  block_in place k (S.Evaluate ∷ ss) (y ∷ ys) around scope aim =
      let l : arming q k (length ss) + last_arms q k (length ss) ≤ last_arms q k (suc (length ss)) = arms_next q k (length ss) in
      in_more q (block_walk place k (S.Evaluate ∷ ss) (y.part ∷ parts_of q ys) around scope aim) (omega (arith, l))
      (in_both q (y.part.state around scope) (under_claim (block_walk place k ss (parts_of q ys) around scope aim)) (y.within.1 around scope)
      (under_claim_in (block_walk place k ss (parts_of q ys) around scope aim) (block_in place k ss ys around scope aim)))
  block_in place k (S.Define at arm ∷ ss) (y ∷ ys) around scope aim =
      let l : arming q k (length ss) + last_arms q k (length ss) ≤ last_arms q k (suc (length ss)) = arms_next q k (length ss) in
      in_more q (block_walk place k (S.Define at arm ∷ ss) (y.part ∷ parts_of q ys) around scope aim) (omega (arith, l))
      (in_both q (let_given (Gives.Arm k (length ss)) at arm y.part around scope)
      (λ found. block_walk place k ss (parts_of q ys) around (found ++ scope) aim) (given_names_in k (length ss) at arm y around scope)
      (λ found. block_in place k ss ys around (found ++ scope) aim))
  block_in place k (S.Declare name written ∷ ss) (y ∷ ys) around scope aim =
      let l : arming q k (length ss) + last_arms q k (length ss) ≤ last_arms q k (suc (length ss)) = arms_next q k (length ss) in
      in_more q (block_walk place k (S.Declare name written ∷ ss) (y.part ∷ parts_of q ys) around scope aim) (omega (arith, l))
      (in_both q (var_name name written y.part around scope) (λ found. block_walk place k ss (parts_of q ys) around (found ++ scope) aim)
      (var_name_in name written y around scope) (λ found. block_in place k ss ys around (found ++ scope) aim))
  block_in place k (S.Evaluate ∷ ss) [] around scope aim = wrong_in q place
  block_in place k (S.Define at arm ∷ ss) [] around scope aim = wrong_in q place
  block_in place k (S.Declare name written ∷ ss) [] around scope aim = wrong_in q place

  -- ---- `match` and `try`

  case_in : (place : Place) (k n : ℕ) (arm : Arm) (y : Costed q) (around : Around) (scope : Scope) (aim : Aim) (i : Indices)
      → In q (arming q k n + y.cost) (case_walk (Gives.Arm k n) place arm y.part around scope aim i)
  case_in place k n arm y around scope aim i =
      in_both q (case_names (Gives.Arm k n) place arm around i) (λ found. y.part.walk around (found ++ scope) (branch_aim aim))
      (in_first q (arm_match place arm around (record { in_case = true; is_owed = false }) (i ∷ [])) (names_given (Gives.Arm k n) (i ∷ []))
      (Matched.arm_kept (Light q) (lights q) around place arm (record { in_case = true; is_owed = false }) (i ∷ []))
      (λ found. names_given_in q k n (i ∷ []) found)) (λ found. walk_in q y around (found ++ scope) (branch_aim aim))

  cases_in : (place : Place) (k : ℕ) (cases : List Arm) (ys : List (Costed q)) (around : Around) (scope : Scope) (aim : Aim) (i : Indices)
      → WaysIn (last_arms q k (length cases) + total q ys) (case_ways place k cases (parts_of q ys) around scope aim i)
  cases_in place k [] ys around scope aim i = tt
  cases_in place k (arm ∷ cases) [] around scope aim i = tt
  cases_in place k (arm ∷ cases) (y ∷ ys) around scope aim i =
      let l : arming q k (length cases) + last_arms q k (length cases) ≤ last_arms q k (suc (length cases)) = arms_next q k (length cases) in (
        arming q k (length cases) + y.cost,
        last_arms q k (length cases) + total q ys,
        omega (arith, l),
        case_in place k (length cases) arm y around scope aim i,
        cases_in place k cases ys around scope aim i,
      )

  pub match_in : (place : Place) (k : ℕ) (shape : Shape) (cases : List Arm) (a : Costed q) (ys : List (Costed q)) (around : Around) (scope : Scope) (aim : Aim)
      → In q (own q k + (a.cost + total q ys)) (match_walk place k shape cases a.part (parts_of q ys) around scope aim)
  match_in place k shape cases a ys around scope aim =
      let l : exact k ≤ making q k = made_own q [] k (I.Unit ∷ []) (Makes.ByIndices I.Unit) in
      let n : making q k + (giving q k + armed q k) ≤ own q k = all_own q k in
      let m : last_arms q k (length cases) ≤ armed q k = arms_all q k (length cases) in
      in_more q (match_walk place k shape cases a.part (parts_of q ys) around scope aim) (omega (arith, l, n, m))
      (in_both q (a.part.walk around scope Aims.Free) (match_under place k shape cases (parts_of q ys) around scope aim) (walk_in q a around scope Aims.Free)
      (λ i. meeting_exact (last_arms q k (length cases) + total q ys) around place k shape (wanted aim)
      (case_ways place k cases (parts_of q ys) around scope aim i) (cases_in place k cases ys around scope aim i)))

  -- what is caught gives no numbers
  thrown_none : (o : Option ℕ) → may_give (thrown o) ≡ false
  thrown_none None = ap form_may_give (ap out-Indices (sym I.rolls-Never) ∙ out-roll-Indices W.Never)
  thrown_none (Some u) = ap form_may_give (ap out-Indices (sym (I.rolls-Named u [] [])) ∙ out-roll-Indices (W.Named u [] []))

  caught_in : (k : ℕ) (i : Indices) → may_give i ≡ false → In q (bit (not q.gives && (not q.calls && is_of q k []))) (caught_at k i)
  caught_in k i none =
      within_left (weigh q) (node_ended k [] i) (numbers_noted k) (λ x d. x ≡ i)
      (leaves_bind (weigh q) (node_made k [] (Makes.ByIndices i)) (λ t. give i) (λ t d. Unit {0}) (λ x d. x ≡ i)
      (leaves_rest (weigh q) (node_made k [] (Makes.ByIndices i)) (bit (not q.gives && (not q.calls && is_of q k []))) 0 (λ t d. Unit {0})
      (made_exact q k [] (Makes.ByIndices i)) (omega arith) (λ t. tt)) (λ t d h. leaves_give (weigh q) (λ x e. x ≡ i) d i refl)) (λ x d e.
      subst (λ (j : Indices). In q d (numbers_noted k j)) (sym e) (few q (numbers_noted k i) (caught_light q k i none)))

  pub try_in : (place : Place) (k : ℕ) (shape : Shape) (cases : List Arm) (a : Costed q) (ys : List (Costed q)) (around : Around) (scope : Scope) (aim : Aim)
      → In q (own q k + (a.cost + total q ys)) (try_walk place k shape cases a.part (parts_of q ys) around scope aim)
  try_in place k shape cases a ys around scope aim =
      let i = thrown around.exception in
      let l : bit (not q.gives && (not q.calls && is_of q k [])) + exact k ≤ making q k = caught_own q k I.Unit in
      let n : making q k + (giving q k + armed q k) ≤ own q k = all_own q k in
      let m : last_arms q k (length cases) ≤ armed q k = arms_all q k (length cases) in
      let rest = last_arms q k (length cases) + total q ys in
      let ws : List Way = try_way a.part around scope aim ∷ case_ways place k cases (parts_of q ys) around scope aim i in
      let ways : WaysIn (a.cost + rest) ws =
      (a.cost, rest, omega arith, walk_in q a around scope (branch_aim aim), cases_in place k cases ys around scope aim i) in
      in_more q (try_walk place k shape cases a.part (parts_of q ys) around scope aim) (omega (arith, l, n, m))
      (in_both q (caught_at k i) (λ t. try_over place k shape cases a.part (parts_of q ys) around scope aim i) (caught_in k i (thrown_none around.exception))
      (λ t. meeting_exact (a.cost + rest) around place k shape (wanted aim) ws ways))

  pub guarded_in : (a b : Costed q) (around : Around) (scope : Scope) (aim : Aim) → In q (a.cost + b.cost) (guarded a.part b.part around scope aim)
  guarded_in a b around scope aim =
      condition_in q b.cost a around scope (λ c. under c b.part around scope aim) (λ c. under_in q c b around scope aim)

  -- ---- loops

  counted_light : (way : Counting) (from v to : Num) → In q 0 (counted way from v to)
  counted_light Up from v to = Opened.between_kept (Light q) (lights q) from v to
  counted_light Down from v to = Opened.between_kept (Light q) (lights q) to v from

  turn_light : (name : List ℕ) (way : Counting) (from to : Num) → In q 0 (turn_begun name way from to)
  turn_light name way from to =
      in_first q (fresh_named name) (turn_named name way from to) ((lights q).names name) (λ v.
      in_first q (counted way from (variable v) to) (λ t. give (bound name (I.Integer (variable v)) ∷ [])) (counted_light way from (variable v) to)
      (λ t. in_give q _))

  turns_in : (place : Place) (name : List ℕ) (way : Counting) (y : Costed q) (around : Around) (scope : Scope) (o : Option Bounds)
      → In q y.cost (turns_walk place name way y.part around scope o)
  turns_in place name way y around scope None = in_give q I.Never
  turns_in place name way y around scope (Some b) =
      in_first q (step_owed place b.by) (λ t. bind (turn_walk name way b.from b.to y.part around scope) (λ i. give I.Unit)) (owes_light q place _) (λ t.
      in_last q (turn_walk name way b.from b.to y.part around scope) (λ i. give I.Unit)
      (within_scoped (weigh q) (bind (turn_begun name way b.from b.to) (λ found. y.part.walk around (found ++ scope) Aims.Free))
      (in_first q (turn_begun name way b.from b.to) (λ found. y.part.walk around (found ++ scope) Aims.Free) (turn_light name way b.from b.to) (λ found.
      walk_in q y around (found ++ scope) Aims.Free))) (λ i. in_give q I.Unit))

  pub foreach_in : (place : Place) (name : List ℕ) (way : Counting) (a b c y : Costed q) (around : Around) (scope : Scope)
      → In q (a.cost + (b.cost + (c.cost + y.cost))) (foreach_walk place name way a.part b.part c.part y.part around scope)
  foreach_in place name way a b c y around scope =
      in_more q (foreach_walk place name way a.part b.part c.part y.part around scope) (omega arith)
      (in_both q (numbers_walk (a.part ∷ b.part ∷ c.part ∷ []) around scope) (λ numbers. turns_walk place name way y.part around scope (bounds_of numbers))
      (numbers_in q (a ∷ b ∷ c ∷ []) around scope) (λ numbers. turns_in place name way y around scope (bounds_of numbers)))

  measure_in : (a : Costed q) (around : Around) (scope : Scope) → In q a.cost (measure_walk a.part around scope)
  measure_in a around scope =
      within_scoped (weigh q) (bind (measured a.part around scope) (λ o. give tt))
      (in_last q (measured a.part around scope) (λ o. give tt)
      (in_last q (a.part.walk around scope (Aims.Due natural_type)) (integer_number a.part.place) (walk_in q a around scope (Aims.Due natural_type)) (λ i.
      integer_light q a.part.place i)) (λ o. in_give q tt))

  turn_in : (is_condition : Bool) (a : Costed q) (around : Around) (scope : Scope) → In q a.cost (turn_part is_condition a.part around scope)
  turn_in true a around scope =
      within_scoped (weigh q) (bind (truth_walk a.part around scope) (λ c. give tt))
      (in_last q (truth_walk a.part around scope) (λ c. give tt) (truth_in q a around scope) (λ c. in_give q tt))
  turn_in false a around scope =
      within_scoped (weigh q) (bind (a.part.walk around scope Aims.Free) (λ i. give tt))
      (in_last q (a.part.walk around scope Aims.Free) (λ i. give tt) (walk_in q a around scope Aims.Free) (λ i. in_give q tt))

  pub loop_in : (is_while : Bool) (m a b : Costed q) (around : Around) (scope : Scope)
      → In q (m.cost + (a.cost + b.cost)) (loop_walk is_while m.part a.part b.part around scope)
  loop_in is_while m a b around scope =
      in_both q (measure_walk m.part around scope) _ (measure_in m around scope) (λ i.
      in_both q (turn_part is_while a.part around scope) _ (turn_in is_while a around scope) (λ j.
      in_last q (turn_part (not is_while) b.part around scope) (λ k. give I.Unit) (turn_in (not is_while) b around scope) (λ k. in_give q I.Unit)))
