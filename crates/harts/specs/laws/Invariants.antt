-- What every call of a model keeps holds over a whole run.
use Rattle.std.specs.Prelude.{◌≡◌, ℕ, ◌<◌, Bool, true, false, ◌&&◌, List, [], ◌∷◌, length, IsTrue, All}
use Rattle.std.specs.List.{list_all}
use Rattle.sail_types.specs.Belongs.{belongs, reading, no_readings}
use Rattle.sail_types.specs.Numbers.{Assignment}
use Rattle.sail_types.specs.declared.table.Types.{Types}
use Rattle.sail_types.specs.declared.values.Value.{Value}
use Rattle.model_state.specs.declared.state.Register.{Register}
use Rattle.model_state.specs.RunState.{RunState, Ran}
use Rattle.model_state.specs.Folds.{Meaning, Keeps, set_rests, start, run}

-- ---- any invariant

-- a call from this state leaves what every part of a run leaves as it is, and the invariant holds behind it
pub record Follows (holds : RunState → Bool) (before : RunState) (ran : Ran) : Type 0 where
  pub keeps : Keeps before ran.state
  pub holds_after : IsTrue (holds ran.state)

-- the invariant holds in a state of the model's registers
pub record HoldsIn (model : Meaning) (holds : RunState → Bool) (state : RunState) : Type 0 where
  pub registers : state.registers ≡ model.registers
  pub holds_now : IsTrue (holds state)

-- the lets and initial values, and `reset` and `step` of a hart that is there, keep the invariant
pub record IsKept (model : Meaning) (holds : RunState → Bool) : Type 0 where
  pub init : (s : RunState) → HoldsIn model holds s → Follows holds s (model.init s)
  pub reset : (s : RunState) (hart entry : ℕ) → HoldsIn model holds s → hart < length s.harts → Follows holds s (model.reset hart entry s)
  pub step : (s : RunState) (hart : ℕ) → HoldsIn model holds s → hart < length s.harts → Follows holds s (model.step hart s)

-- and so does a hart that rests from now on
abbrev pub IsKeptAtRest : (RunState → Bool) → Type 0
IsKeptAtRest holds = (s : RunState) (hart : ℕ) → IsTrue (holds s) → IsTrue (holds (set_rests hart s))

-- it holds where the start ends, and where the events of any schedule end: so behind each event, since a schedule's beginning
-- is a schedule
abbrev pub HoldsThroughout : Meaning → (RunState → Bool) → Type 0
HoldsThroughout model holds =
    (s : RunState) → HoldsIn model holds s
    → ((entry : ℕ) → HoldsIn model holds (start model entry s).state)
    × ((schedule : List ℕ) → All (λ hart. hart < length s.harts) schedule → HoldsIn model holds (run model schedule s).state)

abbrev pub InvariantsHold : Type 0
InvariantsHold = (model : Meaning) (holds : RunState → Bool) → IsKept model holds → IsKeptAtRest holds → HoldsThroughout model holds

-- ---- registers have values of their types

-- each register's value belongs to its type; the assignment is for variables, of which a register's type has none
abbrev pub values_belong : Types → Assignment → List Register → List Value → Bool
values_belong types nu [] [] = true
values_belong types nu (register ∷ registers) (value ∷ values) =
    belongs types value (reading register.typ nu no_readings) && values_belong types nu registers values
values_belong types nu registers values = false

-- each hart's registers do
abbrev pub registers_belong : Assignment → RunState → Bool
registers_belong nu state = list_all (λ hart. values_belong state.types nu state.registers hart.registers) state.harts

-- where each call of a model keeps this, it holds throughout
abbrev pub RegistersHold : Type 0
RegistersHold =
    (model : Meaning) (nu : Assignment) → IsKept model (registers_belong nu) → HoldsThroughout model (registers_belong nu)
