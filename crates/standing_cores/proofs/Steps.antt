-- Names that are bound, branches, cases, blocks, loops and what leaves: what is found of each stands right where what is found of its parts does.
use Rattle.std.proofs.Common.{◌≡◌, ℕ, suc, Bool, true, false, ◌&&◌, nat_eq, List, [], ◌∷◌, ◌++◌, map, length, ap, ◌∙◌, refl, Option, Some, None}
use Rattle.std.specs.List.{list_all}
use Rattle.std.proofs.lemmas.Bool.Decides.{Decides-eqb}
use Rattle.sail_base.specs.declared.place.Place.{Place}
use Rattle.sail_types.specs.declared.shapes.Shape.{Shape}
use Rattle.sail_types.specs.declared.shapes.Shape.TheVariants as V
use Rattle.sail_syntax.specs.declared.name.Name.{Name}
use Rattle.sail_syntax.specs.declared.patterns.Pat.{Pat}
use Rattle.sail_syntax.specs.declared.types.TyExp.{TyExp}
use Rattle.sail_syntax.specs.declared.words.Choosing.TheVariants.{Match, Try}
use Rattle.sail_syntax.specs.declared.words.Leaving.{Leaving}
use Rattle.sail_syntax.specs.declared.words.Leaving.TheVariants as Leave
use Rattle.sail_syntax.specs.declared.words.Looping.{Looping}
use Rattle.sail_syntax.specs.declared.words.Looping.TheVariants.{Repeat, While}
use Rattle.sail_core.specs.declared.tree.Core.{Core}
use Rattle.sail_core.specs.declared.tree.Kind.{Kind}
use Rattle.sail_core.specs.declared.tree.Kind.TheVariants as K
use Rattle.shape_joins.proofs.Order.{two}
use Rattle.shape_rules.specs.Findings.{Found, cast, given_on}
use Rattle.shape_rules.specs.Patterns.{look, no_widths}
use Rattle.shape_rules.specs.Scopes.{Locals, Setting, constant, plainly, thrown_shape, under}
use Rattle.shape_rules.specs.Statements.{CasePart, Cases, RangePart, StatementPart, assert_found, block_found, blocked, by_found, cases_found}
use Rattle.shape_rules.specs.Statements.{choose_found, evaluated, foreach_found, guarded_core, if_found, let_found, loop_found, measure_found, var_found}
use Rattle.shape_rules.specs.Targets.{Part}
use Rattle.sail_kinds.specs.Scopes.{Within}
use Rattle.shape_rules.specs.Values.{leave_found, left_found, return_found}
use Rattle.soundness_forms.specs.Standing.{Standing, block_right, is_body, is_bound, is_branch, is_cast, is_guard, is_value, parts_right}
use Rattle.standing_cores.specs.Places.{Reads, StandsRight, places}
use Rattle.standing_cores.proofs.Forms.{CasesFine, Fine, MaybeFine, bound_of, cast_body, cast_bound, cast_branch, missing_fine, node_fine}
use Rattle.standing_cores.proofs.Forms.{over_fine, over_places, settled_fine, value_of}

module _ (within : Within) where
  -- ---- what leaves

  left_fine : (place : Place) (kind : Kind) (want : Shape) (at_part : Place) (a : Found)
      → ((s : Standing) → parts_right kind (s ∷ []) ≡ (is_bound s && true)) → is_cast kind ≡ false → is_guard kind ≡ false → Fine a.core
      → Fine (left_found place kind want at_part a).core
  left_fine place kind want at_part a same c g h =
      settled_fine place want V.Never _ (λ s. node_fine place kind (cast a.core at_part ∷ [])
      (same (places (cast a.core at_part)) ∙ (λ i. cast_bound a.core at_part h i && true)) c g)

  answer_fine : (place : Place) (a : Part) (answer : Option Shape) → StandsRight within a.elaborate → StandsRight within (return_found place a answer)
  answer_fine place a None h setting ok locals want = missing_fine _
  answer_fine place a (Some s) h setting ok locals want =
      left_fine place K.Return want a.place (a.elaborate setting locals s) (λ t. refl) refl refl (h setting ok locals s)

  pub leave_fine : (place : Place) (leaving : Leaving) (a : Part) → StandsRight within a.elaborate → StandsRight within (leave_found place leaving a)
  leave_fine place Leave.Return a h setting ok locals want = answer_fine place a setting.answer h setting ok locals want
  leave_fine place Leave.Throw a h setting ok locals want =
      left_fine place K.Throw want a.place (a.elaborate setting locals (thrown_shape setting)) (λ t. refl) refl refl (h setting ok locals
      (thrown_shape setting))
  leave_fine place Leave.Exit a h setting ok locals want =
      left_fine place K.Exit want a.place (a.elaborate setting locals V.Unit) (λ t. refl) refl refl (h setting ok locals V.Unit)

  -- ---- names that are bound

  pub let_fine : (place : Place) (p : Pat) (value body : Part) → StandsRight within value.elaborate → StandsRight within body.elaborate
      → StandsRight within (let_found place p value body)
  let_fine place p value body one next setting ok locals want =
      node_fine place (K.Let _) _ (two _ _ (cast_bound _ value.place (one setting ok locals _)) (value_of _ (next setting ok _ want))) refl refl

  pub var_fine : (place : Place) (name : Name) (typ : Option TyExp) (value body : Part) → StandsRight within value.elaborate → StandsRight within body.elaborate
      → StandsRight within (var_found place name typ value body)
  var_fine place name typ value body one next setting ok locals want =
      node_fine place (K.Var _ _) _ (two _ _ (cast_bound _ value.place (one setting ok locals _)) (value_of _ (next setting ok _ want))) refl refl

  -- ---- branches

  pub if_fine : (place : Place) (c a : Part) (b : Option Part) → StandsRight within c.elaborate → StandsRight within a.elaborate → MaybeFine within b
      → StandsRight within (if_found place c a b)
  if_fine place c a (Some b) test one next setting ok locals want =
      node_fine place (K.If _) _
      (two _ _ (value_of _ (test setting ok locals V.Bool)) (two _ _ (cast_branch _ a.place (one setting ok locals want))
      (two _ _ (cast_branch _ b.place (next setting ok locals _)) refl))) refl refl
  if_fine place c a None test one next setting ok locals want =
      settled_fine place want V.Unit _ (λ s. node_fine place (K.If V.Unit) _
      (two _ _ (value_of _ (test setting ok locals V.Bool)) (two _ _ (cast_branch _ a.place (one setting ok locals V.Unit)) refl)) refl refl)

  -- ---- cases

  pub guarded_body : (guard : Option Part) (body : Core) (place : Place) → MaybeFine within guard → Fine body
      → (setting : Setting) (ok : Reads within setting) (locals : Locals)
      → is_body (places (guarded_core guard setting locals (cast body place))) ≡ true
  guarded_body None body place h one setting ok locals = cast_body body place one
  guarded_body (Some guard) body place h one setting ok locals =
      let c : Core = (guard.elaborate setting locals V.Bool).core in
      ap is_body (over_places guard.place K.When (c ∷ cast body place ∷ []))
      ∙ (λ i. two (is_value (places c)) (is_branch (places (cast body place))) (value_of (places c) (h setting ok locals V.Bool)) (cast_branch body place one) i
      && true)

  bodies_right : (cs : List CasePart) → CasesFine within cs → (setting : Setting) (ok : Reads within setting) (locals : Locals) (subject want : Shape)
      → list_all is_body (map places (cases_found cs setting locals subject want).bodies) ≡ true
  bodies_right [] h setting ok locals subject want = refl
  bodies_right (c ∷ cs) h setting ok locals subject want =
      let inner : Locals = under (look c.pattern setting no_widths subject).binds locals in
      two _ _ (guarded_body c.guard (c.body.elaborate setting inner want).core c.body.place h.0.0 (h.0.1 setting ok inner want) setting ok inner)
      (bodies_right cs h.1 setting ok locals subject (given_on want (c.body.elaborate setting inner want).shape))

  bodies_count : (cs : List CasePart) (setting : Setting) (ok : Reads within setting) (locals : Locals) (subject want : Shape)
      → length (cases_found cs setting locals subject want).arms ≡ length (map places (cases_found cs setting locals subject want).bodies)
  bodies_count [] setting ok locals subject want = refl
  bodies_count (c ∷ cs) setting ok locals subject want =
      let inner : Locals = under (look c.pattern setting no_widths subject).binds locals in
      let more : length (cases_found cs setting locals subject (given_on want (c.body.elaborate setting inner want).shape)).arms
      ≡ length (map places (cases_found cs setting locals subject (given_on want (c.body.elaborate setting inner want).shape)).bodies) =
      bodies_count cs setting ok locals subject (given_on want (c.body.elaborate setting inner want).shape) in
      λ i. suc (more i)

  cases_right : (cs : List CasePart) → CasesFine within cs → (setting : Setting) (ok : Reads within setting) (locals : Locals) (subject want : Shape)
      → (nat_eq (length (cases_found cs setting locals subject want).arms) (length (map places (cases_found cs setting locals subject want).bodies))
      && list_all is_body (map places (cases_found cs setting locals subject want).bodies)) ≡ true
  cases_right cs h setting ok locals subject want =
      two _ _ ((Decides-eqb (length (cases_found cs setting locals subject want).arms)
      (length (map places (cases_found cs setting locals subject want).bodies))).1 (bodies_count cs setting ok locals subject want))
      (bodies_right cs h setting ok locals subject want)

  pub match_fine : (place : Place) (value : Part) (cs : List CasePart) → StandsRight within value.elaborate → CasesFine within cs
      → StandsRight within (choose_found place Match value cs)
  match_fine place value cs one h setting ok locals want =
      let a : Found = value.elaborate setting locals V.Never in
      let cases : Cases = cases_found cs setting locals a.shape want in
      node_fine place (K.Match cases.arms cases.shape) (cast a.core value.place ∷ cases.bodies)
      (two _ _ (cast_bound a.core value.place (one setting ok locals V.Never)) (cases_right cs h setting ok locals a.shape want)) refl refl

  pub try_fine : (place : Place) (value : Part) (cs : List CasePart) → StandsRight within value.elaborate → CasesFine within cs
      → StandsRight within (choose_found place Try value cs)
  try_fine place value cs one h setting ok locals want =
      let a : Found = value.elaborate setting locals want in
      let cases : Cases = cases_found cs setting locals (thrown_shape setting) (given_on want a.shape) in
      node_fine place (K.Try cases.arms cases.shape) (cast a.core value.place ∷ cases.bodies)
      (two _ _ (cast_branch a.core value.place (one setting ok locals want)) (cases_right cs h setting ok locals (thrown_shape setting)
      (given_on want a.shape)))
      refl refl

  -- ---- blocks

  -- a statement binds or leaves its part
  abbrev pub StatementFine : StatementPart → Type 0
  StatementFine s = (setting : Setting) (ok : Reads within setting) (locals : Locals) → is_bound (places (s setting locals).part) ≡ true

  abbrev pub StatementsFine : List StatementPart → Type 0
  StatementsFine [] = Unit {0}
  StatementsFine (s ∷ ss) = StatementFine s × StatementsFine ss

  pub evaluated_fine : (a : Part) → StandsRight within a.elaborate → StatementFine (evaluated a)
  evaluated_fine a h setting ok locals = bound_of _ (h setting ok locals V.Unit)

  bare_right : (ss : List StatementPart) → StatementsFine ss → (setting : Setting) (ok : Reads within setting) (locals : Locals)
      → block_right (blocked ss setting locals).statements (map places (blocked ss setting locals).parts) ≡ true
  bare_right [] h setting ok locals = refl
  bare_right (s ∷ ss) h setting ok locals = two _ _ (h.0 setting ok locals) (bare_right ss h.1 setting ok (s setting locals).locals)

  ended_right : (ss : List StatementPart) → StatementsFine ss → (setting : Setting) (ok : Reads within setting) (locals : Locals) (value : Core) → Fine value
      → block_right (blocked ss setting locals).statements (map places ((blocked ss setting locals).parts ++ value ∷ [])) ≡ true
  ended_right [] h setting ok locals value k = value_of (places value) k
  ended_right (s ∷ ss) h setting ok locals value k = two _ _ (h.0 setting ok locals) (ended_right ss h.1 setting ok (s setting locals).locals value k)

  pub block_fine : (place : Place) (ss : List StatementPart) (value : Option Part) → StatementsFine ss → MaybeFine within value
      → StandsRight within (block_found place ss value)
  block_fine place ss None h k setting ok locals want =
      settled_fine place want V.Unit _ (λ s. node_fine place (K.Block _) _ (bare_right ss h setting ok locals) refl refl)
  block_fine place ss (Some value) h k setting ok locals want =
      node_fine place (K.Block _) _ (ended_right ss h setting ok locals _ (k setting ok (blocked ss setting locals).locals want)) refl refl

  -- ---- loops

  by_fine : (place : Place) (by : Option Part) → MaybeFine within by → (setting : Setting) (ok : Reads within setting) (locals : Locals)
      → Fine (by_found place by setting locals).core
  by_fine place None h setting ok locals = settled_fine place V.Int V.Int _ (λ s. over_fine place (K.Constant _) [] ((λ ss. refl), (refl, refl)) tt)
  by_fine place (Some by) h setting ok locals = h setting ok locals V.Int

  abbrev pub RangeFine : RangePart → Type 0
  RangeFine r = (StandsRight within r.from.elaborate × StandsRight within r.to.elaborate) × MaybeFine within r.by

  pub foreach_fine : (place : Place) (name : Name) (range : RangePart) (body : Part) → RangeFine range → StandsRight within body.elaborate
      → StandsRight within (foreach_found place name range body)
  foreach_fine place name range body h k setting ok locals want =
      settled_fine place want V.Unit _ (λ s. over_fine place (K.Foreach _ _) _ ((λ ss. refl), (refl, refl)) (
        h.0.0 setting ok locals V.Int,
        (h.0.1 setting ok locals V.Int, (by_fine place range.by h.1 setting ok locals, (k setting ok (constant name.text V.Int ∷ locals) V.Unit, tt))),
      ))

  measure_fine : (place : Place) (measure : Option Part) → MaybeFine within measure → (setting : Setting) (ok : Reads within setting) (locals : Locals)
      → Fine (measure_found place measure setting locals).core
  measure_fine place None h setting ok locals = missing_fine place
  measure_fine place (Some measure) h setting ok locals = h (plainly setting) ok locals V.Int

  pub loop_fine : (place : Place) (looping : Looping) (measure : Option Part) (a b : Part) → MaybeFine within measure → StandsRight within a.elaborate
      → StandsRight within b.elaborate
      → StandsRight within (loop_found place looping measure a b)
  loop_fine place While measure a b m h k setting ok locals want =
      settled_fine place want V.Unit _ (λ s. over_fine place K.While _ ((λ ss. refl), (refl, refl))
      (measure_fine place measure m setting ok locals, (h setting ok locals V.Bool, (k setting ok locals V.Unit, tt))))
  loop_fine place Repeat measure a b m h k setting ok locals want =
      settled_fine place want V.Unit _ (λ s. over_fine place K.Repeat _ ((λ ss. refl), (refl, refl))
      (measure_fine place measure m setting ok locals, (k setting ok locals V.Unit, (h setting ok locals V.Bool, tt))))

  pub assert_fine : (place : Place) (a : Part) (text : Option (List ℕ)) → StandsRight within a.elaborate → StandsRight within (assert_found place a text)
  assert_fine place a text h setting ok locals want =
      settled_fine place want V.Unit _ (λ s. over_fine place (K.Assert text) _ ((λ ss. refl), (refl, refl)) (h setting ok locals V.Bool, tt))
