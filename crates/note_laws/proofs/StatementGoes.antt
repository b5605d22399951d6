-- Statements and branches go through the mappings of their parts and patterns.
use Rattle.std.specs.Prelude.{Bool, List, None, Option, Some, false, is_none, length, not, pos, true, ℕ, [], ◌&&◌, ◌++◌, ◌∷◌}
use Rattle.sail_base.specs.declared.place.Place.{Place}
use Rattle.sail_types.specs.Sums.{constant, variable}
use Rattle.sail_types.specs.declared.numbers.Con.{Con}
use Rattle.sail_types.specs.declared.numbers.Con.TheVariants as C
use Rattle.sail_types.specs.declared.numbers.Num.{Num}
use Rattle.sail_types.specs.declared.shapes.Shape.{Shape}
use Rattle.sail_core.specs.declared.patterns.Arm.{Arm}
use Rattle.sail_core.specs.declared.tree.Counting.{Counting}
use Rattle.sail_core.specs.declared.tree.Counting.TheVariants.{Down, Up}
use Rattle.sail_core.specs.declared.tree.Giver.{Giver}
use Rattle.sail_core.specs.declared.tree.Giver.TheVariants as By
use Rattle.sail_core.specs.declared.tree.Statement.{Statement}
use Rattle.sail_core.specs.declared.tree.Statement.TheVariants as S
use Rattle.sail_core.specs.declared.written.Written.{Written}
use Rattle.value_indices.specs.Opening.{at_most}
use Rattle.value_indices.specs.Steps.{Walk}
use Rattle.value_indices.specs.declared.indices.Indices.{Indices, out-Indices}
use Rattle.value_indices.specs.declared.indices.Indices.TheOpen as W
use Rattle.value_indices.specs.declared.indices.Indices.TheOpen.{Indices-F}
use Rattle.value_indices.specs.declared.indices.Indices.TheVariants as I
use Rattle.value_indices.specs.declared.indices.Reading.{Reading}
use Rattle.pattern_notes.specs.Patterns.{arm_written, looks}
use Rattle.pattern_leaves.specs.Settings.{Around, Scope, written_in}
use Rattle.call_arguments.specs.Aims.{aimed, branch_aim, inner_aim, wanted}
use Rattle.call_arguments.specs.declared.aims.Aim.{Aim}
use Rattle.call_arguments.specs.declared.aims.Aim.TheVariants as Aims
use Rattle.expression_forms.specs.Meeting.{thrown}
use Rattle.expression_steps.specs.Parts.{Part}
use Rattle.expression_steps.specs.declared.counting.Bounds.{Bounds}
use Rattle.expression_steps.specs.Statements.{and_under, and_walk, or_under, or_walk, owed_of_first, then_first, way_behind, one_way}
use Rattle.expression_steps.specs.Statements.{each_way, met_made, met_value, meeting_from, meeting, way_of, two_ways, if_ways, if_under}
use Rattle.expression_steps.specs.Statements.{unit_form, unit_of, unit_under, when_under, when_met, either_met, either_walk, branches_forms, value_met}
use Rattle.expression_steps.specs.Statements.{if_end, if_forms, plain_state, wrong_state, claim_behind, if_state, assert_state, written_aim, is_written}
use Rattle.expression_steps.specs.Statements.{bind_names, let_given, let_names, let_walk, var_name, var_walk, under_claim, block_end, block_walk, case_walk}
use Rattle.expression_steps.specs.Statements.{case_way, case_ways, match_under, match_walk, try_way, try_over, caught_at, try_walk}
use Rattle.expression_steps.specs.Statements.{guarded, counted, turn_named, turn_begun, turn_walk, step_owed, bounds_of, turns_walk}
use Rattle.expression_steps.specs.Statements.{foreach_walk, natural_type, measured, measure_walk, tested_walk, alone_walk, turn_part, loop_walk, Way}
use Rattle.note_laws.specs.Ways.{Told}
use Rattle.note_laws.proofs.Goes.{Goes, IsTabled, Every, PartGoes, ArmGoes, StatementGoes, give_goes}
use Rattle.note_laws.proofs.Goes.{bind_goes, if_goes, fresh_named_goes, next_variable_goes, scoped_goes, claimed_goes, owe_goes}
use Rattle.note_laws.proofs.EndGoes.{integer_number_goes, never_value_goes, settled_goes, wrong_value_goes}
use Rattle.note_laws.proofs.LeafGoes.{exponents_owed_goes}
use Rattle.note_laws.proofs.MeetingGoes.{like_first_goes, met_ways_goes}
use Rattle.note_laws.proofs.NodeGoes.{made_opened_goes, names_given_goes, node_ended_goes, node_given_goes, numbers_noted_goes}
use Rattle.note_laws.proofs.OpeningGoes.{between_goes}
use Rattle.note_laws.proofs.PartGoes.{condition_walk_goes, given_that_goes, numbers_walk_goes, truth_walk_goes, under_goes}
use Rattle.note_laws.proofs.PatternGoes.{arm_match_goes, looks_goes, one_match_goes}
use Rattle.note_laws.proofs.TruthGoes.{and_right_goes, or_right_goes}

module _ (told : Told) where
  pub under_claim_goes : (rest : Walk Indices) → Goes told rest → (c : Option Con) → Goes told (under_claim rest c)
  under_claim_goes rest rest_go None = rest_go
  under_claim_goes rest rest_go (Some c) = claimed_goes told c _ rest_go

  pub bind_names_goes : (place : Place) (arm : Arm) → ArmGoes told arm → (around : Around) (tabled : IsTabled told around) (is_owed : Bool) (i : Indices)
      → Goes told (bind_names place arm around is_owed i)
  bind_names_goes place arm arm_go around tabled is_owed i =
      one_match_goes told place (looks arm) (looks_goes told arm arm_go) around tabled (record { in_case = false; is_owed = is_owed }) i

  pub let_names_goes : (place : Place) (arm : Arm) → ArmGoes told arm → (a : Part) → PartGoes told a
      → (around : Around) (tabled : IsTabled told around) (scope : Scope)
      → Goes told (let_names place arm a around scope)
  let_names_goes place arm arm_go a a_go around tabled scope =
      bind_goes told _ _ (a_go.walk around tabled scope (written_aim around (arm_written arm)))
      (bind_names_goes place arm arm_go around tabled (is_written (arm_written arm) && a.is_nested))

  pub let_given_goes : (g : Giver) (place : Place) (arm : Arm) → ArmGoes told arm → (a : Part) → PartGoes told a
      → (around : Around) (tabled : IsTabled told around) (scope : Scope)
      → Goes told (let_given g place arm a around scope)
  let_given_goes g place arm arm_go a a_go around tabled scope =
      bind_goes told _ _ (a_go.walk around tabled scope (written_aim around (arm_written arm)))
      (λ i. bind_goes told _ _ (bind_names_goes place arm arm_go around tabled (is_written (arm_written arm) && a.is_nested) i)
      (names_given_goes told g (i ∷ [])))

  pub var_name_goes : (name : List ℕ) (w : Option Written) (a : Part) → PartGoes told a → (around : Around) (tabled : IsTabled told around) (scope : Scope)
      → Goes told (var_name name w a around scope)
  var_name_goes name None a a_go around tabled scope = bind_goes told _ _ (a_go.walk around tabled scope Aims.Free) (λ i. give_goes told _)
  var_name_goes name (Some w) a a_go around tabled scope =
      bind_goes told _ _ (exponents_owed_goes told around w.numbers)
      (λ t. bind_goes told _ _ (a_go.walk around tabled scope (aimed Aims.Due (written_in around w))) (λ i. give_goes told _))

  block_end_goes : (place : Place) (parts : List Part) → Every (PartGoes told) parts → (around : Around) (tabled : IsTabled told around) (scope : Scope)
      (aim : Aim) → Goes told (block_end place parts around scope aim)
  block_end_goes place [] parts_go around tabled scope aim = settled_goes told around place (inner_aim aim) I.Unit
  block_end_goes place (value ∷ []) parts_go around tabled scope aim = parts_go.0.walk around tabled scope (inner_aim aim)
  block_end_goes place (a ∷ b ∷ parts) parts_go around tabled scope aim = wrong_value_goes told place

  pub block_walk_goes : (place : Place) (k : ℕ) (ss : List Statement) → Every (StatementGoes told) ss → (parts : List Part) → Every (PartGoes told) parts
      → (around : Around) (tabled : IsTabled told around) (scope : Scope) (aim : Aim) → Goes told (block_walk place k ss parts around scope aim)
  block_walk_goes place k [] statements_go parts parts_go around tabled scope aim = block_end_goes place parts parts_go around tabled scope aim
  block_walk_goes place k (S.Evaluate ∷ ss) statements_go (a ∷ parts) parts_go around tabled scope aim =
      bind_goes told _ _ (parts_go.0.state around tabled scope)
      (under_claim_goes _ (block_walk_goes place k ss statements_go.1 parts parts_go.1 around tabled scope aim))
  block_walk_goes place k (S.Define at arm ∷ ss) statements_go (a ∷ parts) parts_go around tabled scope aim =
      bind_goes told _ _ (let_given_goes (By.Arm k (length ss)) at arm statements_go.0 a parts_go.0 around tabled scope)
      (λ found. block_walk_goes place k ss statements_go.1 parts parts_go.1 around tabled (found ++ scope) aim)
  block_walk_goes place k (S.Declare name written ∷ ss) statements_go (a ∷ parts) parts_go around tabled scope aim =
      bind_goes told _ _ (var_name_goes name written a parts_go.0 around tabled scope)
      (λ found. block_walk_goes place k ss statements_go.1 parts parts_go.1 around tabled (found ++ scope) aim)
  block_walk_goes place k ss ss_go parts parts_go around tabled scope aim = wrong_value_goes told place

  pub let_walk_goes : (g : Giver) (place : Place) (arm : Arm) → ArmGoes told arm → (a : Part) → PartGoes told a → (b : Part) → PartGoes told b
      → (around : Around) (tabled : IsTabled told around) (scope : Scope) (aim : Aim) → Goes told (let_walk g place arm a b around scope aim)
  let_walk_goes g place arm arm_go a a_go b b_go around tabled scope aim =
      bind_goes told _ _ (let_given_goes g place arm arm_go a a_go around tabled scope) (λ found. b_go.walk around tabled (found ++ scope) (inner_aim aim))

  pub var_walk_goes : (name : List ℕ) (written : Option Written) (a : Part) → PartGoes told a → (b : Part) → PartGoes told b
      → (around : Around) (tabled : IsTabled told around) (scope : Scope) (aim : Aim) → Goes told (var_walk name written a b around scope aim)
  var_walk_goes name written a a_go b b_go around tabled scope aim =
      bind_goes told _ _ (var_name_goes name written a a_go around tabled scope) (λ found. b_go.walk around tabled (found ++ scope) (inner_aim aim))

  pub unit_form_goes : (place : Place) (form : Indices-F Indices Reading) → Goes told (unit_form place form)
  unit_form_goes place W.Unit = give_goes told _
  unit_form_goes place W.Never = give_goes told _
  unit_form_goes place form = wrong_value_goes told place

  pub unit_of_goes : (place : Place) (i : Indices) → Goes told (unit_of place i)
  unit_of_goes place i = unit_form_goes place (out-Indices i)

  pub unit_under_goes : (c : Con) (a : Part) → PartGoes told a → (around : Around) (tabled : IsTabled told around) (scope : Scope)
      → Goes told (unit_under c a around scope)
  unit_under_goes c a a_go around tabled scope = bind_goes told _ _ (under_goes told c a a_go around tabled scope Aims.Free) (unit_of_goes a.place)

  pub when_under_goes : (a : Part) → PartGoes told a → (around : Around) (tabled : IsTabled told around) (scope : Scope) (c : Con)
      → Goes told (when_under a around scope c)
  when_under_goes a a_go around tabled scope c = bind_goes told _ _ (scoped_goes told _ (unit_under_goes c a a_go around tabled scope)) (λ i. give_goes told _)

  pub when_met_goes : (a : Part) → PartGoes told a → (around : Around) (tabled : IsTabled told around) (scope : Scope) (c : Option Con)
      → Goes told (when_met a around scope c)
  when_met_goes a a_go around tabled scope None = give_goes told _
  when_met_goes a a_go around tabled scope (Some c) = bind_goes told _ _ (when_under_goes a a_go around tabled scope c) (λ i. give_goes told _)

  pub owed_of_first_goes : (around : Around) (is_free : Bool) (place : Place) (never_ends : Bool) (m : ℕ) (first : Option Indices) (i : Indices)
      → Goes told (owed_of_first around is_free place never_ends m first i)
  owed_of_first_goes around true place never_ends m (Some first) i = like_first_goes told around place never_ends m first i
  owed_of_first_goes around is_free place never_ends m first i = give_goes told _

  pub then_first_goes : (around : Around) (is_free : Bool) (m : ℕ) (shape : Shape) (w : Way) → Goes told w.walk → (first : Option Indices) (i : Indices)
      → Goes told (then_first around is_free m shape w first i)
  then_first_goes around is_free m shape w w_go first i =
      bind_goes told _ _ (owed_of_first_goes around is_free w.place w.never_ends m first i)
      (λ t. give_goes told _)

  pub way_behind_goes : (around : Around) (is_free : Bool) (m : ℕ) (shape : Shape) (w : Way) → Goes told w.walk → (first : Option Indices)
      → Goes told (way_behind around is_free m shape w first)
  way_behind_goes around is_free m shape w w_go first = bind_goes told _ _ w_go (then_first_goes around is_free m shape w w_go first)

  pub one_way_goes : (around : Around) (is_free : Bool) (m : ℕ) (shape : Shape) (w : Way) → Goes told w.walk → (first : Option Indices)
      → Goes told (one_way around is_free m shape w first)
  one_way_goes around is_free m shape w w_go first = scoped_goes told _ (way_behind_goes around is_free m shape w w_go first)

  pub each_way_goes : (around : Around) (is_free : Bool) (m : ℕ) (shape : Shape) (ws : List Way) → Every (λ (w : Way). Goes told w.walk) ws
      → (first : Option Indices) → Goes told (each_way around is_free m shape ws first)
  each_way_goes around is_free m shape [] ways_go first = give_goes told _
  each_way_goes around is_free m shape (w ∷ ws) ways_go first =
      bind_goes told _ _ (one_way_goes around is_free m shape w ways_go.0 first) (each_way_goes around is_free m shape ws ways_go.1)

  pub met_made_goes : (around : Around) (place : Place) (k : ℕ) (shape : Shape) (r : Option Reading) (m : ℕ) (first : Option Indices)
      → Goes told (met_made around place k shape r m first)
  met_made_goes around place k shape None m first =
      bind_goes told _ _ (met_ways_goes told around place m shape first) (node_ended_goes told k (I.Unit ∷ []))
  met_made_goes around place k shape (Some r) m first = made_opened_goes told place k (I.Unit ∷ []) r

  pub met_value_goes : (around : Around) (place : Place) (k : ℕ) (shape : Shape) (r : Option Reading) (m : ℕ) (first : Option Indices)
      → Goes told (met_value around place k shape r m first)
  met_value_goes around place k shape r m first = bind_goes told _ _ (met_made_goes around place k shape r m first) (node_given_goes told k)

  pub meeting_from_goes : (around : Around) (place : Place) (k : ℕ) (shape : Shape) (r : Option Reading) (ws : List Way)
      → Every (λ (w : Way). Goes told w.walk) ws → (m : ℕ) → Goes told (meeting_from around place k shape r ws m)
  meeting_from_goes around place k shape r ws ws_go m =
      bind_goes told _ _ (each_way_goes around (is_none r) m shape ws ws_go None) (met_value_goes around place k shape r m)

  pub meeting_goes : (around : Around) (place : Place) (k : ℕ) (shape : Shape) (r : Option Reading) (ws : List Way)
      → Every (λ (w : Way). Goes told w.walk) ws → Goes told (meeting around place k shape r ws)
  meeting_goes around place k shape r ws ws_go = bind_goes told _ _ (next_variable_goes told) (meeting_from_goes around place k shape r ws ws_go)

  pub way_of_goes : (a : Part) → PartGoes told a → (around : Around) (tabled : IsTabled told around) (scope : Scope) (aim : Aim) (c : Con)
      → Goes told (way_of a around scope aim c).walk
  way_of_goes a a_go around tabled scope aim c = under_goes told c a a_go around tabled scope (branch_aim aim)

  pub two_ways_goes : (a : Part) → PartGoes told a → (b : Part) → PartGoes told b
      → (around : Around) (tabled : IsTabled told around) (scope : Scope) (aim : Aim) (c : Con) (d : Con)
      → Every (λ (w : Way). Goes told w.walk) (two_ways a b around scope aim c d)
  two_ways_goes a a_go b b_go around tabled scope aim c d =
      ((way_of_goes a a_go around tabled scope aim c), ((way_of_goes b b_go around tabled scope aim d), tt))

  pub if_ways_goes : (a : Part) → PartGoes told a → (b : Part) → PartGoes told b
      → (around : Around) (tabled : IsTabled told around) (scope : Scope) (aim : Aim) (c : Con)
      → Every (λ (w : Way). Goes told w.walk) (if_ways a b around scope aim c)
  if_ways_goes a a_go b b_go around tabled scope aim c = (two_ways_goes a a_go b b_go around tabled scope aim c (C.Not c))

  pub if_under_goes : (place : Place) (k : ℕ) (shape : Shape) (a : Part) → PartGoes told a → (b : Part) → PartGoes told b
      → (around : Around) (tabled : IsTabled told around) (scope : Scope) (aim : Aim) (c : Con) → Goes told (if_under place k shape a b around scope aim c)
  if_under_goes place k shape a a_go b b_go around tabled scope aim c =
      meeting_goes around place k shape (wanted aim) (if_ways a b around scope aim c) (if_ways_goes a a_go b b_go around tabled scope aim c)

  pub either_met_goes : (place : Place) (k : ℕ) (shape : Shape) (a : Part) → PartGoes told a → (b : Part) → PartGoes told b
      → (around : Around) (tabled : IsTabled told around) (scope : Scope) (aim : Aim) (c : Option Con)
      → Goes told (either_met place k shape a b around scope aim c)
  either_met_goes place k shape a a_go b b_go around tabled scope aim None = give_goes told _
  either_met_goes place k shape a a_go b b_go around tabled scope aim (Some c) =
      bind_goes told _ _ (if_under_goes place k shape a a_go b b_go around tabled scope aim c) (λ i. give_goes told _)

  pub either_walk_goes : (place : Place) (k : ℕ) (shape : Shape) (c : Part) → PartGoes told c → (a : Part) → PartGoes told a → (b : Part)
      → PartGoes told b → (around : Around) (tabled : IsTabled told around) (scope : Scope) (aim : Aim)
      → Goes told (either_walk place k shape c a b around scope aim)
  either_walk_goes place k shape c c_go a a_go b b_go around tabled scope aim =
      bind_goes told _ _ (truth_walk_goes told c c_go around tabled scope) (either_met_goes place k shape a a_go b b_go around tabled scope aim)

  pub branches_forms_goes : (place : Place) (k : ℕ) (shape : Shape) (parts : List Part) → Every (PartGoes told) parts
      → (around : Around) (tabled : IsTabled told around) (scope : Scope) (aim : Aim) → Goes told (branches_forms place k shape parts around scope aim)
  branches_forms_goes place k shape (c ∷ a ∷ []) parts_go around tabled scope aim =
      bind_goes told _ _ (truth_walk_goes told c parts_go.0 around tabled scope) (when_met_goes a parts_go.1.0 around tabled scope)
  branches_forms_goes place k shape (c ∷ a ∷ b ∷ []) parts_go around tabled scope aim =
      either_walk_goes place k shape c parts_go.0 a parts_go.1.0 b parts_go.1.1.0 around tabled scope aim
  branches_forms_goes place k shape parts parts_go around tabled scope aim = give_goes told _

  pub if_end_goes : (place : Place) (parts : List Part) → Every (PartGoes told) parts → (around : Around) (aim : Aim) (m : Option (Con × Indices))
      → Goes told (if_end place parts around aim m)
  if_end_goes place (c ∷ a ∷ []) parts_go around aim m = settled_goes told around place (branch_aim aim) (value_met m)
  if_end_goes place (c ∷ a ∷ b ∷ []) parts_go around aim m = give_goes told _
  if_end_goes place parts parts_go around aim m = wrong_value_goes told place

  pub if_forms_goes : (place : Place) (k : ℕ) (shape : Shape) (parts : List Part) → Every (PartGoes told) parts
      → (around : Around) (tabled : IsTabled told around) (scope : Scope) (aim : Aim) → Goes told (if_forms place k shape parts around scope aim)
  if_forms_goes place k shape parts parts_go around tabled scope aim =
      bind_goes told _ _ (branches_forms_goes place k shape parts parts_go around tabled scope aim) (if_end_goes place parts parts_go around aim)

  pub case_walk_goes : (g : Giver) (place : Place) (arm : Arm) → ArmGoes told arm → (body : Part) → PartGoes told body
      → (around : Around) (tabled : IsTabled told around) (scope : Scope) (aim : Aim) (i : Indices)
      → Goes told (case_walk g place arm body around scope aim i)
  case_walk_goes g place arm arm_go body body_go around tabled scope aim i =
      bind_goes told _ _ (bind_goes told _ _ (arm_match_goes told place arm arm_go around tabled (record { in_case = true; is_owed = false }) (i ∷ []))
      (names_given_goes told g (i ∷ [])))
      (λ found. body_go.walk around tabled (found ++ scope) (branch_aim aim))

  pub case_way_goes : (g : Giver) (place : Place) (arm : Arm) → ArmGoes told arm → (body : Part) → PartGoes told body
      → (around : Around) (tabled : IsTabled told around) (scope : Scope) (aim : Aim) (i : Indices)
      → Goes told (case_way g place arm body around scope aim i).walk
  case_way_goes g place arm arm_go body body_go around tabled scope aim i = case_walk_goes g place arm arm_go body body_go around tabled scope aim i

  pub case_ways_goes : (place : Place) (k : ℕ) (arms : List Arm) → Every (ArmGoes told) arms → (bodies : List Part) → Every (PartGoes told) bodies
      → (around : Around) (tabled : IsTabled told around) (scope : Scope) (aim : Aim) (i : Indices)
      → Every (λ (w : Way). Goes told w.walk) (case_ways place k arms bodies around scope aim i)
  case_ways_goes place k (arm ∷ arms) arms_go (body ∷ bodies) parts_go around tabled scope aim i = (
    (case_way_goes (By.Arm k (length arms)) place arm arms_go.0 body parts_go.0 around tabled scope aim i),
    (case_ways_goes place k arms arms_go.1 bodies parts_go.1 around tabled scope aim i),
  )
  case_ways_goes place k arms arms_go bodies bodies_go around tabled scope aim i = tt

  pub match_under_goes : (place : Place) (k : ℕ) (shape : Shape) (arms : List Arm) → Every (ArmGoes told) arms → (bodies : List Part)
      → Every (PartGoes told) bodies → (around : Around) (tabled : IsTabled told around) (scope : Scope) (aim : Aim) (i : Indices)
      → Goes told (match_under place k shape arms bodies around scope aim i)
  match_under_goes place k shape arms arms_go bodies bodies_go around tabled scope aim i =
      meeting_goes around place k shape (wanted aim) (case_ways place k arms bodies around scope aim i)
      (case_ways_goes place k arms arms_go bodies bodies_go around tabled scope aim i)

  pub match_walk_goes : (place : Place) (k : ℕ) (shape : Shape) (arms : List Arm) → Every (ArmGoes told) arms → (a : Part) → PartGoes told a
      → (bodies : List Part) → Every (PartGoes told) bodies → (around : Around) (tabled : IsTabled told around) (scope : Scope) (aim : Aim)
      → Goes told (match_walk place k shape arms a bodies around scope aim)
  match_walk_goes place k shape arms arms_go a a_go bodies bodies_go around tabled scope aim =
      bind_goes told _ _ (a_go.walk around tabled scope Aims.Free) (match_under_goes place k shape arms arms_go bodies bodies_go around tabled scope aim)

  pub caught_at_goes : (k : ℕ) (i : Indices) → Goes told (caught_at k i)
  caught_at_goes k i = bind_goes told _ _ (node_ended_goes told k [] i) (numbers_noted_goes told k)

  pub try_way_goes : (a : Part) → PartGoes told a → (around : Around) (tabled : IsTabled told around) (scope : Scope) (aim : Aim)
      → Goes told (try_way a around scope aim).walk
  try_way_goes a a_go around tabled scope aim = a_go.walk around tabled scope (branch_aim aim)

  pub try_over_goes : (place : Place) (k : ℕ) (shape : Shape) (arms : List Arm) → Every (ArmGoes told) arms → (a : Part) → PartGoes told a
      → (bodies : List Part) → Every (PartGoes told) bodies → (around : Around) (tabled : IsTabled told around) (scope : Scope) (aim : Aim) (i : Indices)
      → Goes told (try_over place k shape arms a bodies around scope aim i)
  try_over_goes place k shape arms arms_go a a_go bodies bodies_go around tabled scope aim i =
      meeting_goes around place k shape (wanted aim) (try_way a around scope aim ∷ case_ways place k arms bodies around scope aim i)
      ((try_way_goes a a_go around tabled scope aim), (case_ways_goes place k arms arms_go bodies bodies_go around tabled scope aim i))

  pub try_walk_goes : (place : Place) (k : ℕ) (shape : Shape) (arms : List Arm) → Every (ArmGoes told) arms → (a : Part) → PartGoes told a
      → (bodies : List Part) → Every (PartGoes told) bodies → (around : Around) (tabled : IsTabled told around) (scope : Scope) (aim : Aim)
      → Goes told (try_walk place k shape arms a bodies around scope aim)
  try_walk_goes place k shape arms arms_go a a_go bodies bodies_go around tabled scope aim =
      bind_goes told _ _ (caught_at_goes k (thrown around.exception))
      (λ t. try_over_goes place k shape arms arms_go a a_go bodies bodies_go around tabled scope aim (thrown around.exception))

  pub guarded_goes : (guard : Part) → PartGoes told guard → (body : Part) → PartGoes told body
      → (around : Around) (tabled : IsTabled told around) (scope : Scope) (aim : Aim)
      → Goes told (guarded guard body around scope aim)
  guarded_goes guard guard_go body body_go around tabled scope aim =
      condition_walk_goes told guard guard_go around tabled scope _ (λ c. under_goes told c body body_go around tabled scope aim)

  pub and_under_goes : (b : Part) → PartGoes told b → (around : Around) (tabled : IsTabled told around) (scope : Scope) (c : Con)
      → Goes told (and_under b around scope c)
  and_under_goes b b_go around tabled scope c = bind_goes told _ _ (given_that_goes told c b b_go around tabled scope Aims.Free) (and_right_goes told b.place c)

  pub and_walk_goes : (a : Part) → PartGoes told a → (b : Part) → PartGoes told b → (around : Around) (tabled : IsTabled told around) (scope : Scope)
      → Goes told (and_walk a b around scope)
  and_walk_goes a a_go b b_go around tabled scope = condition_walk_goes told a a_go around tabled scope _ (and_under_goes b b_go around tabled scope)

  pub or_under_goes : (b : Part) → PartGoes told b → (around : Around) (tabled : IsTabled told around) (scope : Scope) (c : Con)
      → Goes told (or_under b around scope c)
  or_under_goes b b_go around tabled scope c =
      bind_goes told _ _ (given_that_goes told (C.Not c) b b_go around tabled scope Aims.Free) (or_right_goes told b.place c)

  pub or_walk_goes : (a : Part) → PartGoes told a → (b : Part) → PartGoes told b → (around : Around) (tabled : IsTabled told around) (scope : Scope)
      → Goes told (or_walk a b around scope)
  or_walk_goes a a_go b b_go around tabled scope = condition_walk_goes told a a_go around tabled scope _ (or_under_goes b b_go around tabled scope)

  pub step_owed_goes : (place : Place) (by : Num) → Goes told (step_owed place by)
  step_owed_goes place by = owe_goes told place (Some (at_most (constant (pos 1)) by) ∷ [])

  pub counted_goes : (a : Counting) (from : Num) (v : Num) (to : Num) → Goes told (counted a from v to)
  counted_goes Up from v to = between_goes told from v to
  counted_goes Down from v to = between_goes told to v from

  pub turn_named_goes : (name : List ℕ) (way : Counting) (from : Num) (to : Num) (v : ℕ) → Goes told (turn_named name way from to v)
  turn_named_goes name way from to v = bind_goes told _ _ (counted_goes way from (variable v) to) (λ t. give_goes told _)

  pub turn_begun_goes : (name : List ℕ) (way : Counting) (from : Num) (to : Num) → Goes told (turn_begun name way from to)
  turn_begun_goes name way from to = bind_goes told _ _ (fresh_named_goes told name) (turn_named_goes name way from to)

  pub turn_walk_goes : (name : List ℕ) (way : Counting) (from : Num) (to : Num) (body : Part) → PartGoes told body
      → (around : Around) (tabled : IsTabled told around) (scope : Scope)
      → Goes told (turn_walk name way from to body around scope)
  turn_walk_goes name way from to body body_go around tabled scope =
      scoped_goes told _ (bind_goes told _ _ (turn_begun_goes name way from to) (λ found. body_go.walk around tabled (found ++ scope) Aims.Free))

  pub turns_walk_goes : (place : Place) (name : List ℕ) (way : Counting) (body : Part) → PartGoes told body
      → (around : Around) (tabled : IsTabled told around) (scope : Scope) (b : Option Bounds) → Goes told (turns_walk place name way body around scope b)
  turns_walk_goes place name way body body_go around tabled scope None = never_value_goes told
  turns_walk_goes place name way body body_go around tabled scope (Some b) =
      bind_goes told _ _ (step_owed_goes place b.by)
      (λ t. bind_goes told _ _ (turn_walk_goes name way b.from b.to body body_go around tabled scope) (λ i. give_goes told _))

  pub foreach_walk_goes : (place : Place) (name : List ℕ) (way : Counting) (a : Part) → PartGoes told a → (b : Part) → PartGoes told b → (c : Part)
      → PartGoes told c → (body : Part) → PartGoes told body → (around : Around) (tabled : IsTabled told around) (scope : Scope)
      → Goes told (foreach_walk place name way a b c body around scope)
  foreach_walk_goes place name way a a_go b b_go c c_go body body_go around tabled scope =
      bind_goes told _ _ (numbers_walk_goes told (a ∷ b ∷ c ∷ []) (a_go, (b_go, (c_go, tt))) around tabled scope)
      (λ numbers. turns_walk_goes place name way body body_go around tabled scope (bounds_of numbers))

  pub measured_goes : (a : Part) → PartGoes told a → (around : Around) (tabled : IsTabled told around) (scope : Scope) → Goes told (measured a around scope)
  measured_goes a a_go around tabled scope = bind_goes told _ _ (a_go.walk around tabled scope (Aims.Due natural_type)) (integer_number_goes told a.place)

  pub measure_walk_goes : (a : Part) → PartGoes told a → (around : Around) (tabled : IsTabled told around) (scope : Scope)
      → Goes told (measure_walk a around scope)
  measure_walk_goes a a_go around tabled scope = scoped_goes told _ (bind_goes told _ _ (measured_goes a a_go around tabled scope) (λ o. give_goes told _))

  pub tested_walk_goes : (a : Part) → PartGoes told a → (around : Around) (tabled : IsTabled told around) (scope : Scope)
      → Goes told (tested_walk a around scope)
  tested_walk_goes a a_go around tabled scope =
      scoped_goes told _ (bind_goes told _ _ (truth_walk_goes told a a_go around tabled scope) (λ c. give_goes told _))

  pub alone_walk_goes : (a : Part) → PartGoes told a → (around : Around) (tabled : IsTabled told around) (scope : Scope) → Goes told (alone_walk a around scope)
  alone_walk_goes a a_go around tabled scope = scoped_goes told _ (bind_goes told _ _ (a_go.walk around tabled scope Aims.Free) (λ i. give_goes told _))

  pub turn_part_goes : (is_condition : Bool) (a : Part) → PartGoes told a → (around : Around) (tabled : IsTabled told around) (scope : Scope)
      → Goes told (turn_part is_condition a around scope)
  turn_part_goes is_condition a a_go around tabled scope =
      if_goes told is_condition _ _ (tested_walk_goes a a_go around tabled scope) (alone_walk_goes a a_go around tabled scope)

  pub loop_walk_goes : (is_while : Bool) (measure : Part) → PartGoes told measure → (a : Part) → PartGoes told a → (b : Part) → PartGoes told b
      → (around : Around) (tabled : IsTabled told around) (scope : Scope) → Goes told (loop_walk is_while measure a b around scope)
  loop_walk_goes is_while measure measure_go a a_go b b_go around tabled scope =
      bind_goes told _ _ (measure_walk_goes measure measure_go around tabled scope)
      (λ i. bind_goes told _ _ (turn_part_goes is_while a a_go around tabled scope)
      (λ j. bind_goes told _ _ (turn_part_goes (not is_while) b b_go around tabled scope) (λ k. give_goes told _)))

  pub plain_state_goes : (w : Walk Indices) → Goes told w → Goes told (plain_state w)
  plain_state_goes w w_go = bind_goes told _ _ w_go (λ i. give_goes told _)

  pub wrong_state_goes : (place : Place) → Goes told (wrong_state place)
  wrong_state_goes place = plain_state_goes _ (wrong_value_goes told place)

  pub claim_behind_goes : (place : Place) (parts : List Part) → Every (PartGoes told) parts → (m : Option (Con × Indices))
      → Goes told (claim_behind place parts m)
  claim_behind_goes place (c ∷ a ∷ []) parts_go m = give_goes told _
  claim_behind_goes place (c ∷ a ∷ b ∷ []) parts_go m = give_goes told _
  claim_behind_goes place parts parts_go m = wrong_state_goes place

  pub if_state_goes : (place : Place) (k : ℕ) (shape : Shape) (parts : List Part) → Every (PartGoes told) parts
      → (around : Around) (tabled : IsTabled told around) (scope : Scope)
      → Goes told (if_state place k shape parts around scope)
  if_state_goes place k shape parts parts_go around tabled scope =
      bind_goes told _ _ (branches_forms_goes place k shape parts parts_go around tabled scope Aims.Free) (claim_behind_goes place parts parts_go)

  pub assert_state_goes : (place : Place) (parts : List Part) → Every (PartGoes told) parts → (around : Around) (tabled : IsTabled told around) (scope : Scope)
      → Goes told (assert_state place parts around scope)
  assert_state_goes place (a ∷ []) parts_go around tabled scope = truth_walk_goes told a parts_go.0 around tabled scope
  assert_state_goes place parts parts_go around tabled scope = wrong_state_goes place
