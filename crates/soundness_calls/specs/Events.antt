-- Events: a hart enters a function of the model, with no tick taken and no measure.
use Rattle.std.specs.Prelude.{◌≡◌, ℕ, pos, List, [], ◌∷◌, Option, Some}
use Rattle.sail_base.specs.Bits.{bits_of}
use Rattle.sail_types.specs.declared.values.Value.{Value}
use Rattle.sail_types.specs.declared.values.Value.TheVariants as V
use Rattle.model_state.specs.declared.cause.Ended.TheVariants as E
use Rattle.model_state.specs.RunState.{RunState, Ran}
use Rattle.sail_core.specs.declared.model.CoreModel.{CoreModel}
use Rattle.sail_core.specs.declared.model.Function.{Function}
use Rattle.sail_core.specs.Start.{lets_of, reset_ran, step_ran}
use Rattle.checked_meaning.specs.Checked.{Checks, checking}
use Rattle.value_laws.specs.Belonging.{Integers}
use Rattle.soundness_steps.specs.Works.{Setting, Work}
use Rattle.soundness_steps.specs.States.{StateBelongs}
use Rattle.soundness_steps.specs.Calls.{Enters}
use Rattle.soundness_calls.specs.Calls.{CoveredModel}

-- it isn't stuck, and registers belong to their types where it ends with a value
pub record EndsRight (set : Setting) (o : Option Ran) : Type 0 where
  pub ran : Ran
  pub is_there : o ≡ Some ran
  pub keeps : (v : Value) → ran.ended ≡ E.Value v → StateBelongs set ran.state

-- a function that has no variables, as an event enters it: the first of its instances
abbrev pub entered_by : ℕ → Work
entered_by i = record { function = i; instance = record { place = 0; numbers = [] }; own = []; types = [] }

-- the arguments of an event belong to its parameters
pub record EventEnters (set : Setting) (i : ℕ) (vs : List Value) : Type 0 where
  pub it : Function
  pub integers : Integers
  pub enters : Enters set (entered_by i) it vs integers

-- the setting of a model
pub record IsOfModel (set : Setting) (m : CoreModel) : Type 0 where
  pub types : set.around.types ≡ m.types
  pub functions : set.around.functions ≡ m.functions
  pub directions : set.around.directions ≡ m.directions

abbrev pub checks_of : CoreModel → Checks → Checks
checks_of m k = record k { types = m.types }

abbrev pub reset_arguments : ℕ → ℕ → List Value
reset_arguments hart entry = V.Integer (pos hart) ∷ V.Bits (bits_of 64 entry) ∷ []

abbrev pub EventsAreSound : Type 0
EventsAreSound = (set : Setting) (m : CoreModel) (k : Checks) (rank : ℕ → ℕ) → IsOfModel set m
    → CoveredModel set k rank (lets_of (checking (checks_of m k)) m) → (state : RunState) → StateBelongs set state
    → (EventEnters set m.step (V.Unit ∷ []) → EndsRight set (step_ran (checking (checks_of m k)) m set.hart state))
    × ((entry : ℕ) → EventEnters set m.reset (reset_arguments set.hart entry)
    → EndsRight set (reset_ran (checking (checks_of m k)) m set.hart entry state))
