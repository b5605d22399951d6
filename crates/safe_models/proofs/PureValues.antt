-- A value that stands where all of a model is known stands in a model of which nothing is called: there is no function that would ask for arguments.
use Rattle.std.proofs.Common.{◌≡◌, ℕ, Bool, true, List, [], ◌∷◌, ◌++◌, map, length, slice_get, sym, ap, ◌∙◌, refl, subst}
use Rattle.std.specs.List.{list_all}
use Rattle.std.proofs.lemmas.Bool.{and_parts}
use Rattle.std.proofs.lemmas.List.{length-map}
use Rattle.sail_types.specs.Named.{fields, payload}
use Rattle.sail_types.specs.declared.table.Types.{Types}
use Rattle.model_state.specs.declared.state.Register.{Register}
use Rattle.sail_core.specs.declared.model.CoreModel.{CoreModel}
use Rattle.sail_core.specs.declared.model.Opening.{Opening}
use Rattle.sail_core.specs.declared.tree.Callee.{Callee}
use Rattle.sail_core.specs.declared.tree.Callee.TheVariants as C
use Rattle.sail_core.specs.declared.tree.Core.{Core, Core-F, fold-roll-Core, ind-Core, map-Core, roll-Core}
use Rattle.sail_core.specs.declared.tree.Kind.{Kind}
use Rattle.sail_core.specs.declared.tree.Kind.TheVariants as K
use Rattle.pattern_leaves.specs.Settings.{Around}
use Rattle.pattern_leaves.specs.declared.names.TopLevel.{TopLevel}
use Rattle.shape_joins.proofs.Order.{two}
use Rattle.constraint_gen.specs.Models.{around_of, around_with, lets_behind, names_of}
use Rattle.soundness_forms.specs.Standing.{callee_stands, has_arguments, has_fields, has_payload, is_bound, kind_stands, literal_right, standing}
use Rattle.sail_soundness.specs.Whole.{core_fits}
use Rattle.standing_cores.specs.Places.{kinds_stand, node_kinds, places}
use Rattle.standing_cores.proofs.Standing.{stands_as}
use Rattle.whole_runs.specs.Initials.{pure_around}
use Rattle.safe_models.specs.CoreTests.{value_fits}

module _ (one other : Around) (types : one.types ≡ other.types) (free : (i n : ℕ) → has_arguments n (slice_get other.functions i) ≡ true) where
  callee_there : (callee : Callee) (n : ℕ) → callee_stands one callee n ≡ true → callee_stands other callee n ≡ true
  callee_there (C.Function i) n h = free i n
  callee_there (C.Constructor u c) n h = ap (λ (t : Types). has_payload n (payload t u c)) (sym types) ∙ h
  callee_there (C.Applies d) n h = h
  callee_there callee n h = refl

  kind_there : (kind : Kind) (n : ℕ) → kind_stands one kind n ≡ true → kind_stands other kind n ≡ true
  kind_there (K.Constant literal) n h = ap (λ (t : Types). literal_right t literal) (sym types) ∙ h
  kind_there (K.Call callee) n h = callee_there callee n h
  kind_there (K.Struct u ks) n h = ap (λ (t : Types). has_fields ks n (fields t u)) (sym types) ∙ h
  kind_there (K.Optional t) n h = h
  kind_there kind n h = refl

  abbrev There : Core → Type 0
  There c = kinds_stand one c ≡ true → kinds_stand other c ≡ true

  abbrev Such : Type 0
  Such = (c : Core) × There c

  abbrev cores : List Such → List Core
  cores ys = map (λ (y : Such). y.0) ys

  abbrev all_stand : Around → List Core → Bool
  all_stand around cs = list_all (λ b. b) (map (kinds_stand around) cs)

  parts_there : (ys : List Such) → all_stand one (cores ys) ≡ true → all_stand other (cores ys) ≡ true
  parts_there [] h = refl
  parts_there (y ∷ ys) h =
      let both = and_parts (kinds_stand one y.0) (all_stand one (cores ys)) h in
      two (kinds_stand other y.0) (all_stand other (cores ys)) (y.1 both.0) (parts_there ys both.1)

  core_step : (y : Core-F Such) → There (roll-Core (map-Core Such Core (λ q. q.0) y))
  core_step y h =
      let d : Core-F Core = map-Core Such Core (λ q. q.0) y in
      let before : List Bool = map (kinds_stand one) (cores y.parts) in
      let after : List Bool = map (kinds_stand other) (cores y.parts) in
      let both = and_parts (kind_stands one y.kind (length before)) (all_stand one (cores y.parts)) (sym (fold-roll-Core Bool (node_kinds one) d) ∙ h) in
      let many : length after ≡ length before = length-map (cores y.parts) (kinds_stand other) ∙ sym (length-map (cores y.parts) (kinds_stand one)) in
      fold-roll-Core Bool (node_kinds other) d
      ∙ two (kind_stands other y.kind (length after)) (all_stand other (cores y.parts))
      (kind_there y.kind (length after) (ap (kind_stands one y.kind) many ∙ both.0)) (parts_there y.parts both.1)

  kinds_there : (c : Core) → There c
  kinds_there = ind-Core There (λ e y is. subst (λ d. There (roll-Core d)) is (core_step y))

-- ---- the model in which an opening is read

pub types_kept : (m : CoreModel) (lets : List TopLevel) (os : List Opening) → (lets_behind (around_with m lets) os).types ≡ m.types
types_kept m lets [] = refl
types_kept m lets (o ∷ os) = types_kept m (lets ++ names_of (around_with m lets) o o.kind) os

pub value_pure : (m : CoreModel) (registers : List Register) (names : List TopLevel) (c : Core) → kinds_stand (around_of m) c ≡ true
    → core_fits m.types [] c ≡ true → is_bound (places c) ≡ true → value_fits (pure_around m registers names) [] c ≡ true
value_pure m registers names c kinds fits bound =
    let pure : Around = pure_around m registers names in
    let there = kinds_there (around_of m) pure (types_kept m [] m.openings) (λ i n. refl) c kinds in
    two (is_bound (standing pure c)) (core_fits m.types [] c) (ap is_bound (stands_as pure c there) ∙ bound) fits
