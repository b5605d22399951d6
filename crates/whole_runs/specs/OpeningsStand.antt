-- Openings beside what instances are read for: what is asked of each, that values and patterns stand, and names are apart.
use Rattle.std.specs.Prelude.{◌≡◌, ℕ, suc, true, List, [], ◌∷◌, ◌++◌}
use Rattle.sail_types.specs.Numbers.{Positive}
use Rattle.sail_types.specs.declared.values.Value.{Value}
use Rattle.sail_core.specs.Start.{opening_world}
use Rattle.sail_core.specs.declared.model.CoreModel.{CoreModel}
use Rattle.sail_core.specs.declared.model.Opening.{Opening}
use Rattle.sail_core.specs.declared.model.OpeningKind.{OpeningKind}
use Rattle.sail_core.specs.declared.model.OpeningKind.TheVariants as O
use Rattle.sail_core.specs.declared.patterns.Arm.{Arm}
use Rattle.pattern_leaves.specs.declared.names.TopLevel.{TopLevel}
use Rattle.constraint_gen.specs.Models.{around_with, names_of}
use Rattle.checked_meaning.specs.Checked.{Cases, Checks}
use Rattle.pattern_laws.specs.Standing.{arm_stands}
use Rattle.soundness_steps.specs.Works.{Coverage, nobody}
use Rattle.soundness_forms.specs.Worlds.{LetsAre}
use Rattle.whole_runs.specs.Initials.{ValueStands, pure_scene, pure_setting}
use Rattle.whole_runs.specs.Lets.{let_found}
use Rattle.whole_runs.specs.Told.{are_apart}
use Rattle.whole_runs.specs.AllOpenings.{Behind}

pub record LetIsRight (b : Behind) (cases : Cases) (o : Opening) (arm : Arm) : Type 0 where
  pub value : ValueStands (pure_scene (pure_setting b.model b.past b.covered [] b.names) cases) (opening_world b.values) o.value
  pub pattern : arm_stands b.model.types [] arm ≡ true
  pub apart : are_apart (let_found b.model [] b.names o arm [] 0).value ≡ true

abbrev pub KindIsRight : Behind → Cases → Opening → OpeningKind → Type 0
KindIsRight b cases o (O.Let arm) = LetIsRight b cases o arm
KindIsRight b cases o (O.Register r) =
    ValueStands (pure_scene (pure_setting b.model b.past b.covered [] b.names) cases) (opening_world b.values) o.value

-- each, behind the names of those before it
abbrev pub OpeningsAreRight : CoreModel → Positive → Coverage → Checks → ℕ → List TopLevel → List Opening → Type 0
OpeningsAreRight m past covered k i names [] = Unit {0}
OpeningsAreRight m past covered k i names (o ∷ os) =
    ((vs : List Value) → LetsAre (pure_setting m past covered [] []) nobody names vs
    → KindIsRight (record { model = m; past = past; covered = covered; names = names; values = vs }) (k.opening i) o o.kind)
    × OpeningsAreRight m past covered k (suc i) (names ++ names_of (around_with m names) o o.kind) os
