-- What stands behind the types that are written in a clause goes through no other mappings than the clause.
use Rattle.std.specs.Prelude.{ℕ, Bool, true, false, ◌&&◌, List, [], ◌∷◌, map, Option, Some, None}
use Rattle.std.proofs.Common.{◌≡◌, ◌∙◌, ap, refl, sym, subst}
use Rattle.std.specs.List.{list_all}
use Rattle.std.proofs.lemmas.Bool.{and_from, and_parts}
use Rattle.sail_core.specs.declared.patterns.Arm.{Arm}
use Rattle.sail_core.specs.declared.patterns.Arm.TheVariants as A
use Rattle.sail_core.specs.declared.patterns.Pattern.{Pattern, Pattern-F, fold-roll-Pattern, ind-Pattern, map-Pattern, roll-Pattern}
use Rattle.sail_core.specs.declared.tree.Core.{Core, Core-F, fold-roll-Core, out-Core}
use Rattle.sail_core.specs.declared.tree.Core.TheViews.{roll-out-Core}
use Rattle.sail_core.specs.declared.tree.Kind.TheVariants as K
use Rattle.value_indices.specs.Steps.{Walk}
use Rattle.value_indices.specs.declared.indices.Indices.{Indices}
use Rattle.call_arguments.specs.declared.aims.Aim.TheVariants as Aims
use Rattle.expression_steps.specs.Parts.{Part}
use Rattle.expression_steps.specs.Expressions.{part}
use Rattle.function_notes.specs.Functions.{arm_of, as_it_is, bare_arm, bare_form, bare_of, bare_part, bare_pattern, behind_part, body_part, cast_over}
use Rattle.function_notes.specs.Functions.{comes_to_result, comes_to_written, is_typed, only, passed_over, result_part}
use Rattle.note_laws.specs.Ways.{Told, core_reached, form_reached, kind_reached, node_reached, pattern_reached, tree_reached}
use Rattle.note_laws.proofs.Goes.{Goes, Every, PartGoes, PatternGoes, ArmGoes, bind_goes}
use Rattle.note_laws.proofs.ExpressionGoes.{kind_state_goes, kind_walk_goes, part_goes}
use Rattle.note_laws.proofs.FormGoes.{cast_ended_goes}
use Rattle.note_laws.proofs.NodeGoes.{node_given_goes}

module _ (told : Told) where
  -- ---- patterns

  all_of : (ps : List Pattern) → Every (PatternGoes told) ps → list_all (λ b. b) (map (pattern_reached told.reached) ps) ≡ true
  all_of [] h = refl
  all_of (p ∷ ps) h =
      and_from (pattern_reached told.reached p) (list_all (λ b. b) (map (pattern_reached told.reached) ps)) h.0 (all_of ps h.1)

  rolled : (p : Pattern-F Pattern) → form_reached told.reached p.form ≡ true → Every (PatternGoes told) p.parts → PatternGoes told (roll-Pattern p)
  rolled p h k =
      fold-roll-Pattern Bool (node_reached told.reached) p
      ∙ and_from (form_reached told.reached p.form) (list_all (λ b. b) (map (pattern_reached told.reached) p.parts)) h (all_of p.parts k)

  one_or_rolled : (p : Pattern-F Pattern) (b : Bool) (qs : List Pattern) → Every (PatternGoes told) qs → PatternGoes told (roll-Pattern p)
      → PatternGoes told (bare_of p (only b qs))
  one_or_rolled p true (q ∷ []) h k = h.0
  one_or_rolled p true [] h k = k
  one_or_rolled p true (q ∷ r ∷ qs) h k = k
  one_or_rolled p false qs h k = k

  Such : Pattern → Type 0
  Such p = PatternGoes told p → PatternGoes told (bare_pattern p)

  abbrev Known : Type 0
  Known = (p : Pattern) × Such p

  such_parts : (ys : List Known) → list_all (λ b. b) (map (pattern_reached told.reached) (map (λ (y : Known). y.0) ys)) ≡ true
      → Every (PatternGoes told) (map bare_pattern (map (λ (y : Known). y.0) ys))
  unfolding Such
  such_parts [] h = tt
  such_parts (y ∷ ys) h =
      let k = and_parts (pattern_reached told.reached y.0) (list_all (λ b. b) (map (pattern_reached told.reached) (map (λ (y : Known). y.0) ys))) h in
      (y.1 k.0, such_parts ys k.1)

  such_form : (y : Pattern-F Known) → Such (roll-Pattern (map-Pattern Known Pattern (λ q. q.0) y))
  unfolding Such
  such_form y h =
      let written : Pattern-F Pattern = map-Pattern Known Pattern (λ q. q.0) y in
      let bare : Pattern-F Pattern = map-Pattern Pattern Pattern bare_pattern written in
      let k = and_parts (form_reached told.reached y.form) (list_all (λ b. b) (map (pattern_reached told.reached) (map (λ (q : Known). q.0) y.parts)))
      (sym (fold-roll-Pattern Bool (node_reached told.reached) written) ∙ h) in
      let parts : Every (PatternGoes told) bare.parts = such_parts y.parts k.1 in
      subst (PatternGoes told) (sym (fold-roll-Pattern Pattern bare_form written))
      (one_or_rolled bare (is_typed y.form) bare.parts parts (rolled bare k.0 parts))

  such : (p : Pattern) → Such p
  such = ind-Pattern Such (λ e y is. subst (λ d. Such (roll-Pattern d)) is (such_form y))

  bare_patterns_go : (ps : List Pattern) → Every (PatternGoes told) ps → Every (PatternGoes told) (map bare_pattern ps)
  unfolding Such
  bare_patterns_go [] h = tt
  bare_patterns_go (p ∷ ps) h = (such p h.0, bare_patterns_go ps h.1)

  bare_arm_goes : (arm : Arm) → ArmGoes told arm → ArmGoes told (bare_arm arm)
  bare_arm_goes (A.Nested ps) h = bare_patterns_go ps h
  bare_arm_goes (A.Flat count steps) h = tt

  pub arm_of_goes : (declared : Bool) (arm : Arm) → ArmGoes told arm → ArmGoes told (arm_of declared arm)
  arm_of_goes true arm h = h
  arm_of_goes false arm h = bare_arm_goes arm h

  -- ---- bodies

  abbrev pub CoreGoes : Core → Type 0
  CoreGoes c = core_reached told.reached c ≡ true

  abbrev OneGoes : Option Core → Type 0
  OneGoes None = Unit {0}
  OneGoes (Some c) = CoreGoes c

  each_goes : (cs : List Core) → list_all (λ b. b) (map (core_reached told.reached) cs) ≡ true → Every CoreGoes cs
  each_goes [] h = tt
  each_goes (c ∷ cs) h =
      let k = and_parts (core_reached told.reached c) (list_all (λ b. b) (map (core_reached told.reached) cs)) h in
      (k.0, each_goes cs k.1)

  -- the patterns of an expression and its parts
  pub core_goes : (c : Core) → CoreGoes c → (kind_reached told.reached (out-Core c).kind ≡ true) × Every CoreGoes (out-Core c).parts
  core_goes c h =
      let opened : (kind_reached told.reached (out-Core c).kind && list_all (λ b. b) (map (core_reached told.reached) (out-Core c).parts)) ≡ true =
      sym (fold-roll-Core Bool (tree_reached told.reached) (out-Core c)) ∙ ap (core_reached told.reached) (roll-out-Core c) ∙ h in
      let k = and_parts (kind_reached told.reached (out-Core c).kind) (list_all (λ b. b) (map (core_reached told.reached) (out-Core c).parts)) opened in
      (k.0, each_goes (out-Core c).parts k.1)

  only_goes : (b : Bool) (cs : List Core) → Every CoreGoes cs → OneGoes (only b cs)
  only_goes true (c ∷ []) h = h.0
  only_goes true [] h = tt
  only_goes true (c ∷ d ∷ cs) h = tt
  only_goes false cs h = tt

  as_it_is_goes : (k : ℕ) (first : Walk Indices) → Goes told first → Goes told (as_it_is k first)
  as_it_is_goes k first h = bind_goes told _ _ (bind_goes told _ _ h (cast_ended_goes told k Aims.Free)) (node_given_goes told k)

  cast_over_goes : (c : Core-F Core) (a : Part) → PartGoes told a → PartGoes told (cast_over c a)
  cast_over_goes c a a_go = record {
    walk = λ around tabled scope aim. kind_walk_goes told c.place c.number (K.Cast None) tt (a ∷ []) (a_go, tt) around tabled scope aim;
    state = λ around tabled scope. kind_state_goes told c.place c.number (K.Cast None) tt (a ∷ []) (a_go, tt) around tabled scope;
  }

  passed_over_goes : (c : Core-F Core) (a : Part) → PartGoes told a → PartGoes told (passed_over c a)
  passed_over_goes c a a_go = record {
    walk = λ around tabled scope aim. as_it_is_goes c.number _ (a_go.walk around tabled scope aim);
    state = λ around tabled scope. kind_state_goes told c.place c.number (K.Cast None) tt (a ∷ []) (a_go, tt) around tabled scope;
  }

  behind_part_goes : (c : Core) → CoreGoes c → (o : Option Core) → OneGoes o → PartGoes told (behind_part c o)
  behind_part_goes c h (Some a) k = passed_over_goes (out-Core c) (part a) (part_goes told a k)
  behind_part_goes c h None k = part_goes told c h

  bare_part_goes : (c : Core) → CoreGoes c → PartGoes told (bare_part c)
  bare_part_goes c h = behind_part_goes c h _ (only_goes (comes_to_written (out-Core c).kind) (out-Core c).parts (core_goes c h).1)

  result_part_goes : (c : Core) → CoreGoes c → (o : Option Core) → OneGoes o → PartGoes told (result_part c o)
  result_part_goes c h (Some inside) k = cast_over_goes (out-Core c) (bare_part inside) (bare_part_goes inside k)
  result_part_goes c h None k = part_goes told c h

  pub body_part_goes : (declared : Bool) (c : Core) → CoreGoes c → PartGoes told (body_part declared c)
  body_part_goes true c h = part_goes told c h
  body_part_goes false c h = result_part_goes c h _ (only_goes (comes_to_result (out-Core c).kind) (out-Core c).parts (core_goes c h).1)
