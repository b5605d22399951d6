-- An expression goes through the mappings that its patterns name: by induction on it.
use Rattle.std.specs.Prelude.{Bool, List, None, Option, Some, false, map, slice_get, true, ℕ, [], ◌∷◌}
use Rattle.std.proofs.Common.{◌≡◌, ◌∙◌, sym, subst}
use Rattle.std.specs.List.{list_all}
use Rattle.std.proofs.lemmas.Bool.{and_parts}
use Rattle.sail_base.specs.declared.place.Place.{Place}
use Rattle.sail_core.specs.declared.targets.Way.TheVariants as Y
use Rattle.sail_core.specs.declared.tree.Core.{Core, Core-F}
use Rattle.sail_core.specs.declared.tree.Giver.TheVariants as By
use Rattle.sail_core.specs.declared.tree.Kind.{Kind}
use Rattle.sail_core.specs.declared.tree.Kind.TheVariants as K
use Rattle.sail_core.specs.declared.written.Written.{Written}
use Rattle.value_indices.specs.declared.indices.Indices.{Indices}
use Rattle.value_indices.specs.declared.indices.Reading.{Reading}
use Rattle.pattern_leaves.specs.Settings.{Around, Scope, held_in, written_in}
use Rattle.call_arguments.specs.Aims.{aimed}
use Rattle.call_arguments.specs.declared.aims.Aim.{Aim}
use Rattle.call_arguments.specs.declared.aims.Aim.TheVariants as Aims
use Rattle.expression_steps.specs.Parts.{Part}
use Rattle.expression_steps.specs.Targets.{spotting}
use Rattle.expression_steps.specs.Expressions.{cast_owed, written_ended, cast_walk, left_walk, return_owed, return_walk, thrown_type}
use Rattle.expression_steps.specs.Expressions.{thrown_aim, thrown_owed, throw_walk, asserted, assert_walk, free_giving, option_indices, place_walk}
use Rattle.expression_steps.specs.Expressions.{inward, leaf_form, leaf_walk, made_plain, parted, is_made, plain, goes_inward}
use Rattle.expression_steps.specs.Expressions.{settled_walk, form_walk, makes_value, node_end, kind_walk, kind_state, core_part, part}
use Rattle.sail_core.specs.declared.patterns.Arm.{Arm}
use Rattle.sail_core.specs.declared.patterns.Arm.TheVariants as A
use Rattle.sail_core.specs.declared.tree.Statement.{Statement}
use Rattle.sail_core.specs.declared.tree.Statement.TheVariants as S
use Rattle.sail_core.specs.declared.tree.Core.{fold-roll-Core, ind-Core, map-Core, roll-Core}
use Rattle.note_laws.proofs.Goes.{Goes, IsTabled, Every, PartGoes, PatternGoes, ArmGoes, StatementGoes, KindGoes, give_goes, bind_goes, if_goes}
use Rattle.note_laws.specs.Ways.{Told, pattern_reached, arm_reached, statement_reached, kind_reached, tree_reached, core_reached}
use Rattle.note_laws.proofs.ArgumentGoes.{call_walk_goes}
use Rattle.note_laws.proofs.CallGoes.{part_owed_goes}
use Rattle.note_laws.proofs.EndGoes.{never_value_goes, settled_goes, wrong_value_goes}
use Rattle.note_laws.proofs.FormGoes.{cast_ended_goes}
use Rattle.note_laws.proofs.LeafGoes.{exponents_owed_goes}
use Rattle.note_laws.proofs.NameGoes.{local_walk_goes, register_walk_goes, top_level_walk_goes, variable_walk_goes}
use Rattle.note_laws.proofs.NodeGoes.{node_ended_goes, node_given_goes}
use Rattle.note_laws.proofs.PartGoes.{four_goes, led_goes, none_goes, one_goes, three_goes, two_goes}
use Rattle.note_laws.proofs.SizeGoes.{constraint_walk_goes, size_walk_goes}
use Rattle.note_laws.proofs.StatementGoes.{and_walk_goes, assert_state_goes, block_walk_goes, foreach_walk_goes, guarded_goes, if_forms_goes, if_state_goes}
use Rattle.note_laws.proofs.StatementGoes.{let_walk_goes, loop_walk_goes, match_walk_goes, or_walk_goes, plain_state_goes, try_walk_goes, var_walk_goes}
use Rattle.note_laws.proofs.TargetGoes.{assigned_goes, spottings_go}
use Rattle.note_laws.proofs.TruthGoes.{truth_of_goes}
use Rattle.note_laws.proofs.ValueGoes.{cons_walk_goes, list_walk_goes, part_forms_goes, struct_walk_goes}
use Rattle.note_laws.proofs.ValueGoes.{tuple_walk_goes, update_forms_goes, vector_walk_goes, with_walk_goes}

module _ (told : Told) where
  pub place_walk_goes : (k : ℕ) (a : Part) → PartGoes told a → (around : Around) (tabled : IsTabled told around) (scope : Scope) (aim : Aim)
      → Goes told (place_walk k a around scope aim)
  place_walk_goes k a a_go around tabled scope aim = bind_goes told _ _ (a_go.walk around tabled scope aim) (cast_ended_goes told k aim)

  pub inward_goes : (place : Place) (k : ℕ) (kind : Kind) → KindGoes told kind → (parts : List Part) → Every (PartGoes told) parts
      → (around : Around) (tabled : IsTabled told around) (scope : Scope) (aim : Aim) → Goes told (inward place k kind parts around scope aim)
  inward_goes place k (K.Cast None) kind_go parts parts_go around tabled scope aim =
      one_goes told place _ (λ a a_go. place_walk_goes k a a_go around tabled scope aim) parts parts_go
  inward_goes place k (K.Block statements) kind_go parts parts_go around tabled scope aim =
      block_walk_goes told place k statements kind_go parts parts_go around tabled scope aim
  inward_goes place k (K.Let arm) kind_go parts parts_go around tabled scope aim =
      two_goes told place _ (λ a a_go b b_go. let_walk_goes told (By.Arm k 0) place arm kind_go a a_go b b_go around tabled scope aim) parts parts_go
  inward_goes place k (K.Var name written) kind_go parts parts_go around tabled scope aim =
      two_goes told place _ (λ a a_go b b_go. var_walk_goes told name written a a_go b b_go around tabled scope aim) parts parts_go
  inward_goes place k (K.If shape) kind_go parts parts_go around tabled scope aim = if_forms_goes told place k shape parts parts_go around tabled scope aim
  inward_goes place k (K.Match arms shape) kind_go parts parts_go around tabled scope aim =
      led_goes told place _
      (λ a a_go bodies bodies_go. match_walk_goes told place k shape arms kind_go a a_go bodies bodies_go around tabled scope aim) parts parts_go
  inward_goes place k (K.Try arms shape) kind_go parts parts_go around tabled scope aim =
      led_goes told place _
      (λ a a_go bodies bodies_go. try_walk_goes told place k shape arms kind_go a a_go bodies bodies_go around tabled scope aim) parts parts_go
  inward_goes place k K.When kind_go parts parts_go around tabled scope aim =
      two_goes told place _ (λ a a_go b b_go. guarded_goes told a a_go b b_go around tabled scope aim) parts parts_go
  inward_goes place k kind kind_go parts parts_go around tabled scope aim = wrong_value_goes told place

  pub cast_owed_goes : (around : Around) (place : Place) (w : Written) (is_nested : Bool) (i : Indices) → Goes told (cast_owed around place w is_nested i)
  cast_owed_goes around place w is_nested i =
      bind_goes told _ _ (exponents_owed_goes told around w.numbers) (λ t. part_owed_goes told around is_nested place i (written_in around w))

  pub written_ended_goes : (around : Around) (place : Place) (k : ℕ) (w : Written) (is_nested : Bool) (i : Indices)
      → Goes told (written_ended around place k w is_nested i)
  written_ended_goes around place k w is_nested i =
      bind_goes told _ _ (cast_owed_goes around place w is_nested i) (λ t. node_ended_goes told k (i ∷ []) i)

  pub cast_walk_goes : (place : Place) (k : ℕ) (w : Option Written) (a : Part) → PartGoes told a
      → (around : Around) (tabled : IsTabled told around) (scope : Scope) (aim : Aim)
      → Goes told (cast_walk place k w a around scope aim)
  cast_walk_goes place k None a a_go around tabled scope aim = a_go.walk around tabled scope aim
  cast_walk_goes place k (Some w) a a_go around tabled scope aim =
      bind_goes told _ _ (a_go.walk around tabled scope (aimed Aims.Given (written_in around w))) (written_ended_goes around place k w a.is_nested)

  pub return_owed_goes : (around : Around) (place : Place) (is_nested : Bool) (r : Reading) (i : Indices)
      → Goes told (return_owed around place is_nested r i)
  return_owed_goes around place is_nested r i = bind_goes told _ _ (part_owed_goes told around is_nested place i r) (λ t. never_value_goes told)

  pub return_walk_goes : (place : Place) (a : Part) → PartGoes told a → (around : Around) (tabled : IsTabled told around) (scope : Scope) (r : Option Reading)
      → Goes told (return_walk place a around scope r)
  return_walk_goes place a a_go around tabled scope None = wrong_value_goes told place
  return_walk_goes place a a_go around tabled scope (Some r) =
      bind_goes told _ _ (a_go.walk around tabled scope (aimed Aims.Given r)) (return_owed_goes around place a.is_nested r)

  pub thrown_owed_goes : (around : Around) (place : Place) (is_nested : Bool) (u : Option ℕ) (i : Indices)
      → Goes told (thrown_owed around place is_nested u i)
  thrown_owed_goes around place is_nested None i = wrong_value_goes told place
  thrown_owed_goes around place is_nested (Some u) i = return_owed_goes around place is_nested (thrown_type u) i

  pub throw_walk_goes : (place : Place) (a : Part) → PartGoes told a → (around : Around) (tabled : IsTabled told around) (scope : Scope) (exception : Option ℕ)
      → Goes told (throw_walk place a around scope exception)
  throw_walk_goes place a a_go around tabled scope exception =
      bind_goes told _ _ (a_go.walk around tabled scope (thrown_aim exception)) (thrown_owed_goes around place a.is_nested exception)

  pub left_walk_goes : (a : Part) → PartGoes told a → (around : Around) (tabled : IsTabled told around) (scope : Scope) (aim : Aim)
      → Goes told (left_walk a around scope aim)
  left_walk_goes a a_go around tabled scope aim = bind_goes told _ _ (a_go.walk around tabled scope aim) (λ i. never_value_goes told)

  pub asserted_goes : (place : Place) (i : Indices) → Goes told (asserted place i)
  asserted_goes place i = bind_goes told _ _ (truth_of_goes told place i) (λ c. give_goes told _)

  pub assert_walk_goes : (a : Part) → PartGoes told a → (around : Around) (tabled : IsTabled told around) (scope : Scope)
      → Goes told (assert_walk a around scope)
  assert_walk_goes a a_go around tabled scope = bind_goes told _ _ (a_go.walk around tabled scope Aims.Free) (asserted_goes a.place)

  pub free_giving_goes : (a : Part) → PartGoes told a → (around : Around) (tabled : IsTabled told around) (scope : Scope) (i : Indices)
      → Goes told (free_giving a around scope i)
  free_giving_goes a a_go around tabled scope i = bind_goes told _ _ (a_go.walk around tabled scope Aims.Free) (λ j. give_goes told _)

  pub leaf_form_goes : (place : Place) (k : ℕ) (kind : Kind) → KindGoes told kind → (around : Around) (scope : Scope)
      → Goes told (leaf_form place k kind around scope)
  leaf_form_goes place k (K.Constant literal) kind_go around scope = give_goes told _
  leaf_form_goes place k (K.Local name) kind_go around scope = local_walk_goes told place k (held_in name scope)
  leaf_form_goes place k (K.Variable name) kind_go around scope = variable_walk_goes told place k name (held_in name scope)
  leaf_form_goes place k (K.TopLevel i) kind_go around scope = top_level_walk_goes told around.types place k (slice_get around.lets i)
  leaf_form_goes place k (K.Register r) kind_go around scope = register_walk_goes told place k (slice_get around.registers r)
  leaf_form_goes place k (K.SizeOf t numbers) kind_go around scope = size_walk_goes told place t numbers around
  leaf_form_goes place k (K.Constraint c numbers) kind_go around scope = constraint_walk_goes told place c numbers around
  leaf_form_goes place k kind kind_go around scope = wrong_value_goes told place

  pub leaf_walk_goes : (place : Place) (k : ℕ) (kind : Kind) → KindGoes told kind → (parts : List Part) → Every (PartGoes told) parts
      → (around : Around) (scope : Scope) → Goes told (leaf_walk place k kind parts around scope)
  leaf_walk_goes place k kind kind_go parts parts_go around scope = none_goes told place _ (leaf_form_goes place k kind kind_go around scope) parts parts_go

  pub made_plain_goes : (place : Place) (k : ℕ) (kind : Kind) → KindGoes told kind → (args : List Part) → Every (PartGoes told) args
      → (around : Around) (tabled : IsTabled told around) (scope : Scope) (aim : Aim) → Goes told (made_plain place k kind args around scope aim)
  made_plain_goes place k (K.Call callee) kind_go args args_go around tabled scope aim = call_walk_goes told place k callee args args_go around tabled scope aim
  made_plain_goes place k (K.Cast written) kind_go parts parts_go around tabled scope aim =
      one_goes told place _ (λ a a_go. cast_walk_goes place k written a a_go around tabled scope aim) parts parts_go
  made_plain_goes place k K.Tuple kind_go parts parts_go around tabled scope aim = tuple_walk_goes told k parts parts_go around tabled scope aim
  made_plain_goes place k (K.Cons shape) kind_go parts parts_go around tabled scope aim =
      two_goes told place _ (λ a a_go b b_go. cons_walk_goes told k shape a a_go b b_go around tabled scope aim) parts parts_go
  made_plain_goes place k (K.Struct u fields) kind_go parts parts_go around tabled scope aim =
      struct_walk_goes told k u fields parts parts_go around tabled scope
  made_plain_goes place k K.Return kind_go parts parts_go around tabled scope aim =
      one_goes told place _ (λ a a_go. return_walk_goes place a a_go around tabled scope around.answer) parts parts_go
  made_plain_goes place k K.Throw kind_go parts parts_go around tabled scope aim =
      one_goes told place _ (λ a a_go. throw_walk_goes place a a_go around tabled scope around.exception) parts parts_go
  made_plain_goes place k K.Exit kind_go parts parts_go around tabled scope aim =
      one_goes told place _ (λ a a_go. left_walk_goes a a_go around tabled scope Aims.Free) parts parts_go
  made_plain_goes place k (K.Assert text) kind_go parts parts_go around tabled scope aim =
      one_goes told place _ (λ a a_go. assert_walk_goes a a_go around tabled scope) parts parts_go
  made_plain_goes place k (K.Optional t) kind_go parts parts_go around tabled scope aim =
      one_goes told place _ (λ a a_go. free_giving_goes a a_go around tabled scope (option_indices t)) parts parts_go
  made_plain_goes place k kind kind_go parts parts_go around tabled scope aim = leaf_walk_goes place k kind kind_go parts parts_go around scope

  pub parted_goes : (place : Place) (k : ℕ) (kind : Kind) → KindGoes told kind → (parts : List Part) → Every (PartGoes told) parts
      → (around : Around) (tabled : IsTabled told around) (scope : Scope) (aim : Aim) → Goes told (parted place k kind parts around scope aim)
  parted_goes place k K.And kind_go parts parts_go around tabled scope aim =
      two_goes told place _ (λ a a_go b b_go. and_walk_goes told a a_go b b_go around tabled scope) parts parts_go
  parted_goes place k K.Or kind_go parts parts_go around tabled scope aim =
      two_goes told place _ (λ a a_go b b_go. or_walk_goes told a a_go b b_go around tabled scope) parts parts_go
  parted_goes place k (K.Vector shape) kind_go items items_go around tabled scope aim =
      vector_walk_goes told place k shape items items_go around tabled scope aim
  parted_goes place k (K.List shape) kind_go items items_go around tabled scope aim = list_walk_goes told place k shape items items_go around tabled scope aim
  parted_goes place k (K.With u fields) kind_go parts parts_go around tabled scope aim =
      led_goes told place _ (λ a a_go values values_go. with_walk_goes told place k u fields a a_go values values_go around tabled scope) parts parts_go
  parted_goes place k (K.Part suffixes) kind_go parts parts_go around tabled scope aim = part_forms_goes told place suffixes parts parts_go around tabled scope
  parted_goes place k K.WithItem kind_go parts parts_go around tabled scope aim = update_forms_goes told place k Y.Item parts parts_go around tabled scope
  parted_goes place k K.WithSlice kind_go parts parts_go around tabled scope aim = update_forms_goes told place k Y.Slice parts parts_go around tabled scope
  parted_goes place k (K.Assign targets) kind_go parts parts_go around tabled scope aim =
      assigned_goes told place (map spotting targets) (spottings_go told targets) around tabled scope parts parts_go
  parted_goes place k (K.Foreach name way) kind_go parts parts_go around tabled scope aim =
      four_goes told place _
      (λ a a_go b b_go c c_go body body_go. foreach_walk_goes told place name way a a_go b b_go c c_go body body_go around tabled scope) parts parts_go
  parted_goes place k K.While kind_go parts parts_go around tabled scope aim =
      three_goes told place _ (λ measure measure_go a a_go b b_go. loop_walk_goes told true measure measure_go a a_go b b_go around tabled scope) parts parts_go
  parted_goes place k K.Repeat kind_go parts parts_go around tabled scope aim =
      three_goes told place _
      (λ measure measure_go a a_go b b_go. loop_walk_goes told false measure measure_go a a_go b b_go around tabled scope) parts parts_go
  parted_goes place k kind kind_go parts parts_go around tabled scope aim = wrong_value_goes told place

  pub plain_goes : (place : Place) (k : ℕ) (kind : Kind) → KindGoes told kind → (parts : List Part) → Every (PartGoes told) parts
      → (around : Around) (tabled : IsTabled told around) (scope : Scope) (aim : Aim) → Goes told (plain place k kind parts around scope aim)
  plain_goes place k kind kind_go parts parts_go around tabled scope aim =
      if_goes told (is_made kind) _ _ (made_plain_goes place k kind kind_go parts parts_go around tabled scope aim)
      (parted_goes place k kind kind_go parts parts_go around tabled scope aim)

  pub settled_walk_goes : (place : Place) (k : ℕ) (kind : Kind) → KindGoes told kind → (parts : List Part) → Every (PartGoes told) parts
      → (around : Around) (tabled : IsTabled told around) (scope : Scope) (aim : Aim) → Goes told (settled_walk place k kind parts around scope aim)
  settled_walk_goes place k kind kind_go parts parts_go around tabled scope aim =
      bind_goes told _ _ (plain_goes place k kind kind_go parts parts_go around tabled scope aim) (settled_goes told around place aim)

  pub form_walk_goes : (place : Place) (k : ℕ) (kind : Kind) → KindGoes told kind → (parts : List Part) → Every (PartGoes told) parts
      → (around : Around) (tabled : IsTabled told around) (scope : Scope) (aim : Aim) → Goes told (form_walk place k kind parts around scope aim)
  form_walk_goes place k kind kind_go parts parts_go around tabled scope aim =
      if_goes told (goes_inward kind) _ _ (inward_goes place k kind kind_go parts parts_go around tabled scope aim)
      (settled_walk_goes place k kind kind_go parts parts_go around tabled scope aim)

  pub node_end_goes : (k : ℕ) (is_made : Bool) (i : Indices) → Goes told (node_end k is_made i)
  node_end_goes k is_made i = if_goes told is_made _ _ (node_given_goes told k i) (give_goes told _)

  pub kind_walk_goes : (place : Place) (k : ℕ) (kind : Kind) → KindGoes told kind → (parts : List Part) → Every (PartGoes told) parts
      → (around : Around) (tabled : IsTabled told around) (scope : Scope) (aim : Aim) → Goes told (kind_walk place k kind parts around scope aim)
  kind_walk_goes place k kind kind_go parts parts_go around tabled scope aim =
      bind_goes told _ _ (form_walk_goes place k kind kind_go parts parts_go around tabled scope aim) (node_end_goes k (makes_value kind))

  pub kind_state_goes : (place : Place) (k : ℕ) (kind : Kind) → KindGoes told kind → (parts : List Part) → Every (PartGoes told) parts
      → (around : Around) (tabled : IsTabled told around) (scope : Scope) → Goes told (kind_state place k kind parts around scope)
  kind_state_goes place k (K.If shape) kind_go parts parts_go around tabled scope = if_state_goes told place k shape parts parts_go around tabled scope
  kind_state_goes place k (K.Assert text) kind_go parts parts_go around tabled scope = assert_state_goes told place parts parts_go around tabled scope
  kind_state_goes place k kind kind_go parts parts_go around tabled scope =
      plain_state_goes told _ (kind_walk_goes place k kind kind_go parts parts_go around tabled scope Aims.Free)

  -- ---- kinds whose patterns are reached

  every_of : {A : Type 0} (f : A → Bool) (P : A → Type 0) → ((x : A) → f x ≡ true → P x) → (xs : List A) → list_all f xs ≡ true → Every P xs
  every_of f P h [] e = tt
  every_of f P h (x ∷ xs) e = let k = and_parts (f x) (list_all f xs) e in (h x k.0, every_of f P h xs k.1)

  pub arm_of_reached : (arm : Arm) → arm_reached told.reached arm ≡ true → ArmGoes told arm
  arm_of_reached (A.Nested ps) h = every_of (pattern_reached told.reached) (PatternGoes told) (λ p k. k) ps h
  arm_of_reached (A.Flat count steps) h = tt

  pub arms_of_reached : (arms : List Arm) → list_all (arm_reached told.reached) arms ≡ true → Every (ArmGoes told) arms
  arms_of_reached arms h = every_of (arm_reached told.reached) (ArmGoes told) arm_of_reached arms h

  statement_of_reached : (s : Statement) → statement_reached told.reached s ≡ true → StatementGoes told s
  statement_of_reached (S.Define place arm) h = arm_of_reached arm h
  statement_of_reached statement h = tt

  kind_of_reached : (kind : Kind) → kind_reached told.reached kind ≡ true → KindGoes told kind
  kind_of_reached (K.Let arm) h = arm_of_reached arm h
  kind_of_reached (K.Block statements) h = every_of (statement_reached told.reached) (StatementGoes told) statement_of_reached statements h
  kind_of_reached (K.Match arms shape) h = arms_of_reached arms h
  kind_of_reached (K.Try arms shape) h = arms_of_reached arms h
  kind_of_reached (K.Clauses arms) h = arms_of_reached arms h
  kind_of_reached kind h = tt

  -- ---- expressions

  Such : Core → Type 0
  Such c = core_reached told.reached c ≡ true → PartGoes told (part c)

  abbrev Known : Type 0
  Known = (c : Core) × Such c

  such_parts : (ys : List Known) → list_all (λ b. b) (map (core_reached told.reached) (map (λ (y : Known). y.0) ys)) ≡ true
      → Every (PartGoes told) (map part (map (λ (y : Known). y.0) ys))
  unfolding Such
  such_parts [] h = tt
  such_parts (y ∷ ys) h =
      let k = and_parts (core_reached told.reached y.0) (list_all (λ b. b) (map (core_reached told.reached) (map (λ (y : Known). y.0) ys))) h in
      (y.1 k.0, such_parts ys k.1)

  such_form : (y : Core-F Known) → Such (roll-Core (map-Core Known Core (λ q. q.0) y))
  unfolding Such
  such_form y h =
      let bare : Core-F Core = map-Core Known Core (λ q. q.0) y in
      let k = and_parts (kind_reached told.reached y.kind) (list_all (λ b. b) (map (core_reached told.reached) (map (λ (q : Known). q.0) y.parts)))
      (sym (fold-roll-Core Bool (tree_reached told.reached) bare) ∙ h) in
      let parts = map part (map (λ (q : Known). q.0) y.parts) in
      subst (PartGoes told) (sym (fold-roll-Core Part core_part bare)) (record {
        walk =
            λ around tabled scope aim. kind_walk_goes y.place y.number y.kind (kind_of_reached y.kind k.0) parts
            (such_parts y.parts k.1) around tabled scope aim;
        state = λ around tabled scope. kind_state_goes y.place y.number y.kind (kind_of_reached y.kind k.0) parts (such_parts y.parts k.1) around tabled scope;
      })

  such : (c : Core) → Such c
  such = ind-Core Such (λ e y is. subst (λ d. Such (roll-Core d)) is (such_form y))

  pub part_goes : (c : Core) → core_reached told.reached c ≡ true → PartGoes told (part c)
  unfolding Such
  part_goes c h = such c h
