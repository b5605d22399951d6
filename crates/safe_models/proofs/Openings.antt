-- Openings that pass the test, one by one.
use Rattle.std.proofs.Common.{◌≡◌, ℕ, suc, true, List, [], ◌∷◌, ◌++◌}
use Rattle.std.proofs.lemmas.Bool.{and_parts}
use Rattle.sail_types.specs.Numbers.{Positive}
use Rattle.sail_types.specs.declared.values.Value.{Value}
use Rattle.sail_core.specs.Start.{opening_world}
use Rattle.sail_core.specs.declared.model.CoreModel.{CoreModel}
use Rattle.sail_core.specs.declared.model.Opening.{Opening}
use Rattle.sail_core.specs.declared.model.OpeningKind.{OpeningKind}
use Rattle.sail_core.specs.declared.model.OpeningKind.TheVariants as O
use Rattle.pattern_leaves.specs.declared.names.TopLevel.{TopLevel}
use Rattle.constraint_gen.specs.Models.{around_with, names_of}
use Rattle.checked_meaning.specs.Checked.{Cases, Checks}
use Rattle.pattern_laws.specs.Standing.{arm_stands}
use Rattle.soundness_steps.specs.Works.{Coverage, nobody}
use Rattle.sail_soundness.specs.Whole.{ModelStands}
use Rattle.whole_runs.specs.Initials.{pure_around, pure_scene, pure_setting}
use Rattle.whole_runs.specs.OpeningsStand.{KindIsRight, OpeningsAreRight}
use Rattle.safe_models.specs.CoreTests.{value_fits}
use Rattle.safe_models.specs.OpeningLaws.{TestedOpeningsStand}
use Rattle.safe_models.specs.OpeningTests.{opening_fits, opening_once, openings_fit, openings_once}
use Rattle.safe_models.proofs.Cores.{values}
use Rattle.safe_models.proofs.FoundNames.{names_apart}

module _ (m : CoreModel) (past : Positive) (covered : Coverage) (k : Checks)
    (model : (names : List TopLevel) → ModelStands (pure_setting m past covered [] names) nobody) where
  one : (names : List TopLevel) (cases : Cases) (vs : List Value) (o : Opening) (kind : OpeningKind)
      → opening_fits m names o kind ≡ true → opening_once kind ≡ true
      → KindIsRight (record { model = m; past = past; covered = covered; names = names; values = vs }) cases o kind
  one names cases vs o (O.Let arm) h once =
      let both = and_parts (value_fits (pure_around m [] names) [] o.value) (arm_stands m.types [] arm) h in
      record {
        value = values (pure_scene (pure_setting m past covered [] names) cases) (opening_world vs) o.value both.0 (model names);
        pattern = both.1;
        apart = names_apart m [] names o arm once;
      }
  one names cases vs o (O.Register r) h once =
      values (pure_scene (pure_setting m past covered [] names) cases) (opening_world vs) o.value h (model names)

  all : (i : ℕ) (names : List TopLevel) (os : List Opening) → openings_fit m names os ≡ true → openings_once os ≡ true
      → OpeningsAreRight m past covered k i names os
  all i names [] h once = tt
  all i names (o ∷ os) h once =
      let more : List TopLevel = names ++ names_of (around_with m names) o o.kind in
      let both = and_parts (opening_fits m names o o.kind) (openings_fit m more os) h in
      let apart = and_parts (opening_once o.kind) (openings_once os) once in (
        λ vs are. one names (k.opening i) vs o o.kind both.0 apart.0,
        all (suc i) more os both.1 apart.1,
      )

pub tested : TestedOpeningsStand
tested m past covered k model h once = all m past covered k model 0 [] m.openings h once
