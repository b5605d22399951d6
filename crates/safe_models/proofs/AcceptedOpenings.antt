-- Openings of an accepted text pass the test of openings, each behind the names of lets before it.
use Rattle.std.proofs.Common.{◌≡◌, true, ◌&&◌, List, [], ◌∷◌, ◌++◌, ◌∙◌, refl, subst, sym}
use Rattle.std.proofs.lemmas.Bool.{and_parts}
use Rattle.sail_types.specs.declared.table.Types.{Types}
use Rattle.sail_core.specs.declared.model.CoreModel.{CoreModel}
use Rattle.sail_core.specs.declared.model.Opening.{Opening}
use Rattle.sail_core.specs.declared.model.OpeningKind.{OpeningKind}
use Rattle.sail_core.specs.declared.model.OpeningKind.TheVariants as O
use Rattle.pattern_leaves.specs.Settings.{Around}
use Rattle.pattern_leaves.specs.declared.names.TopLevel.{TopLevel}
use Rattle.constraint_gen.specs.Models.{around_of, around_with, names_of}
use Rattle.pattern_laws.specs.Standing.{arm_stands, stands}
use Rattle.shape_joins.proofs.Order.{two}
use Rattle.shapes.specs.Tabled.{tabled_of}
use Rattle.soundness_forms.specs.Standing.{is_bound}
use Rattle.sail_soundness.specs.Whole.{core_fits}
use Rattle.standing_cores.specs.Places.{places}
use Rattle.standing_models.specs.Laws.{AllOpenings}
use Rattle.standing_models.specs.Tests.{passes}
use Rattle.standing_models.proofs.Models.{models_placed}
use Rattle.standing_models.proofs.PassingNumbered.{passes_kinds}
use Rattle.standing_texts.specs.Openings.{OpeningPatterns, kind_passes, opening_passes, openings_pass}
use Rattle.standing_texts.proofs.OpeningsPass.{text_openings}
use Rattle.standing_texts.proofs.TextsRead.{text_types}
use Rattle.text_progress.specs.Laws.{core_of}
use Rattle.whole_runs.specs.Initials.{pure_around}
use Rattle.safe_models.specs.AcceptedOpenings.{AcceptedOpeningsFit}
use Rattle.safe_models.specs.CoreTests.{value_fits}
use Rattle.safe_models.specs.OpeningTests.{opening_fits, openings_fit}
use Rattle.safe_models.proofs.AcceptedFit.{arm_same, core_fit, functions_kept, types_kept}
use Rattle.safe_models.proofs.OpeningPatterns.{patterns_pass}
use Rattle.safe_models.proofs.PureValues.{value_pure}

module _ (m : CoreModel) where
  same_types : (around_of m).types ≡ m.types
  same_types = types_kept m [] m.openings

  value_is : (names : List TopLevel) (o : Opening) → passes (around_of m) [] (stands (around_of m).types []) o.value ≡ true
      → is_bound (places o.value) ≡ true → value_fits (pure_around m [] names) [] o.value ≡ true
  value_is names o p bound =
      value_pure m [] names o.value (passes_kinds (around_of m) [] (stands (around_of m).types []) o.value p)
      (subst (λ (t : Types). core_fits t [] o.value ≡ true) same_types (core_fit (around_of m) [] o.value p)) bound

  one : (names : List TopLevel) (o : Opening) (kind : OpeningKind)
      → (passes (around_of m) [] (stands (around_of m).types []) o.value && kind_passes (around_of m) (stands (around_of m).types []) kind) ≡ true
      → is_bound (places o.value) ≡ true → opening_fits m names o kind ≡ true
  one names o (O.Let arm) p bound =
      let b = and_parts (passes (around_of m) [] (stands (around_of m).types []) o.value)
      (kind_passes (around_of m) (stands (around_of m).types []) (O.Let arm)) p in
      two (value_fits (pure_around m [] names) [] o.value) (arm_stands m.types [] arm) (value_is names o b.0 bound)
      (subst (λ (t : Types). arm_stands t [] arm ≡ true) same_types (sym (arm_same (around_of m) [] arm) ∙ b.1))
  one names o (O.Register r) p bound = value_is names o (and_parts (passes (around_of m) [] (stands (around_of m).types []) o.value) true p).0 bound

  all : (names : List TopLevel) (os : List Opening) → openings_pass (around_of m) (stands (around_of m).types []) os ≡ true → AllOpenings os
      → openings_fit m names os ≡ true
  all names [] p placed = refl
  all names (o ∷ os) p placed =
      let more : List TopLevel = names ++ names_of (around_with m names) o o.kind in
      let b = and_parts (opening_passes (around_of m) (stands (around_of m).types []) o) (openings_pass (around_of m) (stands (around_of m).types []) os) p in
      two (opening_fits m names o o.kind) (openings_fit m more os) (one names o o.kind b.0 placed.0) (all more os b.1 placed.1)

pub accepted : AcceptedOpeningsFit
accepted text end cycle is_accepted kept is_written =
    let m : CoreModel = core_of text cycle in
    let around : Around = around_of m in
    let types : around.types ≡ m.types = types_kept m [] m.openings in
    let functions : around.functions ≡ m.functions = functions_kept m [] m.openings in
    let here : OpeningPatterns text (stands around.types []) = subst (λ (t : Types). OpeningPatterns text (stands t [])) (sym types)
    (patterns_pass text end cycle is_accepted kept is_written) in
    let placed = models_placed (tabled_of text) cycle text kept (text_types text end is_accepted kept is_written) in
    all m [] m.openings
    (text_openings text end cycle is_accepted kept is_written (stands around.types []) here around types functions) placed.2
