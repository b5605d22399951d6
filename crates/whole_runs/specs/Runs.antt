-- Runs with so many harts: top-level lets and initial values, then `reset` of each hart, then the events of a schedule. When none of these parts is
-- stuck, and what is so in each state between them.
use Rattle.std.specs.Prelude.{◌≡◌, ℕ, ◌<◌, Bool, true, false, List, [], ◌∷◌, Option, Some, None}
use Rattle.std.specs.List.{range_with_len}
use Rattle.model_state.specs.Folds.{after_step, rests}
use Rattle.model_state.specs.RunState.{Ran, RunState}
use Rattle.model_state.specs.declared.cause.Ended.{Ended}
use Rattle.model_state.specs.declared.cause.Ended.TheVariants as E

-- the parts of a run, by the state before each; none where it is stuck
pub record Parts : Type 0 where
  pub init : RunState → Option Ran
  -- of a hart, at an entry
  pub reset : ℕ → ℕ → RunState → Option Ran
  pub step : ℕ → RunState → Option Ran

-- behind a part that doesn't stop the run
abbrev pub Behind : Ended → Type 0 → Type 0
Behind (E.Value v) next = next
Behind (E.Stop cause) next = Unit {0}

-- a part that isn't stuck, and what is so behind it
abbrev pub Goes : Option Ran → (Ran → Type 0) → Type 0
Goes None next = ⊥
Goes (Some ran) next = Behind ran.ended (next ran)

-- from each state in which something is so each part goes on to one in which it is
pub record PartsGo (parts : Parts) (count : ℕ) (Holds : RunState → Type 0) : Type 0 where
  pub init : (state : RunState) → Holds state → Goes (parts.init state) (λ ran. Holds ran.state)
  pub reset : (hart entry : ℕ) → hart < count → (state : RunState) → Holds state → Goes (parts.reset hart entry state) (λ ran. Holds ran.state)
  pub step : (hart : ℕ) → hart < count → (state : RunState) → Holds state
      → Goes (parts.step hart state) (λ ran. Holds (after_step hart ran.ended ran.state))

-- ---- a whole run

-- an event: a hart that rests does nothing
abbrev pub EventGoes : Parts → ℕ → RunState → (RunState → Type 0) → Bool → Type 0
EventGoes parts hart state next true = next state
EventGoes parts hart state next false = Goes (parts.step hart state) (λ ran. next (after_step hart ran.ended ran.state))

-- those of a schedule, up to the first that stops
abbrev pub EventsGo : Parts → (RunState → Type 0) → List ℕ → RunState → Type 0
EventsGo parts Holds [] state = Holds state
EventsGo parts Holds (hart ∷ schedule) state = Holds state × EventGoes parts hart state (EventsGo parts Holds schedule) (rests state hart)

-- harts are reset in order, before what comes then
abbrev pub ResetsGo : Parts → (RunState → Type 0) → ℕ → (RunState → Type 0) → List ℕ → RunState → Type 0
ResetsGo parts Holds entry next [] state = next state
ResetsGo parts Holds entry next (hart ∷ harts) state =
    Holds state × Goes (parts.reset hart entry state) (λ ran. ResetsGo parts Holds entry next harts ran.state)

abbrev pub RunGoes : Parts → (RunState → Type 0) → ℕ → ℕ → List ℕ → RunState → Type 0
RunGoes parts Holds count entry schedule state =
    Goes (parts.init state) (λ ran. ResetsGo parts Holds entry (EventsGo parts Holds schedule) (range_with_len 0 count) ran.state)

-- a schedule of harts that are there
abbrev pub AreThere : ℕ → List ℕ → Type 0
AreThere count [] = Unit {0}
AreThere count (hart ∷ harts) = (hart < count) × AreThere count harts

-- parts that do the same
pub record AreAlike (parts others : Parts) (Holds : RunState → Type 0) : Type 0 where
  pub init : (state : RunState) → Holds state → parts.init state ≡ others.init state
  pub reset : (hart entry : ℕ) (state : RunState) → Holds state → parts.reset hart entry state ≡ others.reset hart entry state
  pub step : (hart : ℕ) (state : RunState) → Holds state → parts.step hart state ≡ others.step hart state
