-- Openings one after the other: none is stuck, the names of top-level lets have such values as the walk tells of them, and registers get values of their
-- types.
use Rattle.std.specs.Prelude.{◌≡◌, ℕ, suc, true, List, [], ◌∷◌, ◌++◌, slice_get, Some}
use Rattle.sail_types.specs.Numbers.{Positive}
use Rattle.sail_types.specs.declared.values.Value.{Value}
use Rattle.model_state.specs.declared.state.Register.{Register}
use Rattle.model_state.specs.RunState.{RunState}
use Rattle.sail_core.specs.Start.{Opened, opened, opened_not, opened_to, opening_world, openings_of}
use Rattle.sail_core.specs.declared.model.CoreModel.{CoreModel}
use Rattle.sail_core.specs.declared.model.Opening.{Opening}
use Rattle.sail_core.specs.declared.model.OpeningKind.{OpeningKind}
use Rattle.sail_core.specs.declared.model.OpeningKind.TheVariants as O
use Rattle.sail_core.specs.declared.patterns.Arm.{Arm}
use Rattle.pattern_leaves.specs.declared.names.TopLevel.{TopLevel}
use Rattle.expression_steps.specs.Expressions.{part}
use Rattle.constraint_gen.specs.Models.{around_of, around_with, names_of}
use Rattle.checked_meaning.specs.Checked.{Cases, Checks, checking}
use Rattle.soundness_steps.specs.Works.{Coverage, nobody}
use Rattle.soundness_steps.specs.Covers.{AreMet}
use Rattle.soundness_steps.specs.States.{StateBelongs}
use Rattle.soundness_forms.specs.Forms.{at}
use Rattle.soundness_forms.specs.Worlds.{LetsAre}
use Rattle.soundness_binding.specs.Told.{LetTells}
use Rattle.whole_runs.specs.Initials.{ValueStands, initial_aim, pure_around, pure_scene, pure_setting}
use Rattle.whole_runs.specs.Lets.{let_found}
use Rattle.whole_runs.specs.Told.{are_apart}

-- behind which names an opening stands, with the values that they have there; where it is worked out there is no register
pub record Behind : Type 0 where
  pub model : CoreModel
  pub past : Positive
  pub covered : Coverage
  pub names : List TopLevel
  pub values : List Value

-- an initial value, for a register of the model where it is there
pub record RegisterStands (b : Behind) (cases : Cases) (o : Opening) (r : ℕ) : Type 0 where
  pub register : Register
  pub is_it : (x : Register) → slice_get b.model.registers r ≡ Some x → x ≡ register
  pub value : ValueStands (pure_scene (pure_setting b.model b.past b.covered [] b.names) cases) (opening_world b.values) o.value
  pub met : AreMet (pure_setting b.model b.past b.covered [] b.names) nobody (λ d. true) cases
      ((part o.value).walk (pure_around b.model [] b.names) [] (initial_aim register.typ) [] 0).notes

-- a let
pub record LetStands (b : Behind) (cases : Cases) (o : Opening) (arm : Arm) : Type 0 where
  pub value : ValueStands (pure_scene (pure_setting b.model b.past b.covered [] b.names) cases) (opening_world b.values) o.value
  pub matches : LetTells (at (pure_scene (pure_setting b.model b.past b.covered [] b.names) cases) (opening_world b.values) [] true)
      (opening_world b.values) arm
  pub met : AreMet (pure_setting b.model b.past b.covered [] b.names) nobody (λ d. true) cases
      (let_found b.model [] b.names o arm [] 0).notes
  -- its names are apart
  pub apart : are_apart (let_found b.model [] b.names o arm [] 0).value ≡ true

abbrev pub KindStands : Behind → Cases → Opening → OpeningKind → Type 0
KindStands b cases o (O.Let arm) = LetStands b cases o arm
KindStands b cases o (O.Register r) = RegisterStands b cases o r

-- each, behind those before it
abbrev pub OpeningsStand : CoreModel → Positive → Coverage → Checks → ℕ → List TopLevel → List Opening → Type 0
OpeningsStand m past covered k i names [] = Unit {0}
OpeningsStand m past covered k i names (o ∷ os) =
    ((vs : List Value) → LetsAre (pure_setting m past covered [] []) nobody names vs
    → KindStands (record { model = m; past = past; covered = covered; names = names; values = vs }) (k.opening i) o o.kind)
    × OpeningsStand m past covered k (suc i) (names ++ names_of (around_with m names) o o.kind) os

-- they end, and registers belong to their types; or a pattern doesn't match; they are never stuck
abbrev pub OpenedRight : CoreModel → Positive → Coverage → List Register → List TopLevel → Opened → Type 0
OpenedRight m past covered registers names (opened vs state) =
    LetsAre (pure_setting m past covered [] []) nobody names vs × StateBelongs (pure_setting m past covered registers []) state
OpenedRight m past covered registers names (opened_to cause state) = Unit {0}
OpenedRight m past covered registers names opened_not = ⊥

-- the registers of the state are those of the model, or none
abbrev pub AreOfModel : CoreModel → List Register → Type 0
AreOfModel m registers = (r : ℕ) (x : Register) → slice_get registers r ≡ Some x → slice_get m.registers r ≡ Some x

abbrev pub OpeningsAreSound : Type 0
OpeningsAreSound = (m : CoreModel) (past : Positive) (covered : Coverage) (registers : List Register) → AreOfModel m registers
    → (k : Checks) → k.types ≡ m.types
    → OpeningsStand m past covered k 0 [] m.openings → (state : RunState) → StateBelongs (pure_setting m past covered registers []) state
    → OpenedRight m past covered registers (around_of m).lets (openings_of (checking k) m state)
