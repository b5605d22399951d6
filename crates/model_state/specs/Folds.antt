-- What a run's start and its events come to, for whatever takes a hart's steps.
use Rattle.std.specs.Prelude.{◌≡◌, ◌≢◌, ℕ, suc, Bool, true, false, if◌then◌else◌, List, [], ◌∷◌, ◌++◌, length, slice_get, Option, Some, None}
use Rattle.std.specs.List.{list_all, range_with_len}
use Rattle.sail_types.specs.declared.values.Value.TheVariants as value
use Rattle.model_state.specs.declared.cause.Cause.{Cause}
use Rattle.model_state.specs.declared.cause.Cause.TheVariants as cause
use Rattle.model_state.specs.declared.cause.Ended.{Ended}
use Rattle.model_state.specs.declared.cause.Ended.TheVariants as ended
use Rattle.model_state.specs.declared.state.Hart.{Hart}
use Rattle.model_state.specs.declared.state.Register.{Register}
use Rattle.model_state.specs.RunState.{RunState, changed, Ran, Access}

-- a model that can be run: its registers, the lets and initial values, `reset` of a hart at an entry, and `step` of a hart
pub record Meaning : Type 0 where
  pub registers : List Register
  pub init : RunState → Ran
  pub reset : ℕ → ℕ → RunState → Ran
  pub step : ℕ → RunState → Ran

-- what every part of a run leaves as it is: the types, the registers, the count of harts and where RAM lies; and what was put
-- on the console before stays in front
pub record Keeps (before after : RunState) : Type 0 where
  pub types : after.types ≡ before.types
  pub registers : after.registers ≡ before.registers
  pub harts : length after.harts ≡ length before.harts
  pub base : after.base ≡ before.base
  pub size : length after.bytes ≡ length before.bytes
  pub more : List ℕ
  pub console : after.console ≡ before.console ++ more

-- an ending that isn't the stop at the schedule's end
abbrev pub IsNotDone : Ended → Type 0
IsNotDone e = e ≢ ended.Stop cause.StepsDone

-- ---- the start

-- where a start comes to: a stop, or none once all harts are reset
pub record Started : Type 0 where
  pub stop : Option Cause
  pub state : RunState
  pub accesses : List Access

abbrev pub started_after : List Access → Started → Started
started_after accesses rest = record { stop = rest.stop; state = rest.state; accesses = accesses ++ rest.accesses }

-- a part of the start, and then the rest unless it stopped
abbrev pub then_start : Ended → RunState → List Access → (RunState → Started) → Started
then_start (ended.Stop cause) state accesses rest = record { stop = Some cause; state = state; accesses = accesses }
then_start (ended.Value v) state accesses rest = started_after accesses (rest state)

abbrev pub resets : Meaning → ℕ → List ℕ → RunState → Started
resets model entry [] state = record { stop = None; state = state; accesses = [] }
resets model entry (hart ∷ harts) state =
    let first = model.reset hart entry state in then_start first.ended first.state first.accesses (resets model entry harts)

-- the lets and initial values, then `reset` of each hart in order
abbrev pub start : Meaning → ℕ → RunState → Started
start model entry state =
    let first = model.init state in
    then_start first.ended first.state first.accesses (resets model entry (range_with_len 0 (length state.harts)))

-- ---- the events

abbrev pub rests_now : Option Hart → Bool
rests_now None = false
rests_now (Some hart) = hart.rests

abbrev pub rests : RunState → ℕ → Bool
rests state hart = rests_now (slice_get state.harts hart)

abbrev pub resting : Hart → Hart
resting hart = record hart { rests = true }

abbrev pub set_rests : ℕ → RunState → RunState
set_rests hart state = record state { harts = changed resting hart state.harts }

abbrev pub all_rest : RunState → Bool
all_rest state = list_all (λ hart. hart.rests) state.harts

-- the state after a step that gave this: `false` makes the hart rest
abbrev pub after_step : ℕ → Ended → RunState → RunState
after_step hart (ended.Value (value.Truth false)) state = set_rests hart state
after_step hart e state = state

-- one event: nothing where the hart rests, else one whole step of it
abbrev pub event : Meaning → ℕ → RunState → Ran
event model hart state =
    if rests state hart
    then record { ended = ended.Value value.Unit; state = state; accesses = [] }
    else (let ran = model.step hart state in record { ended = ran.ended; state = after_step hart ran.ended ran.state; accesses = ran.accesses })

-- why and after how many steps a run ends, the state then, and its accesses in order
pub record RunEnd : Type 0 where
  pub cause : Cause
  pub steps : ℕ
  pub state : RunState
  pub accesses : List Access

abbrev pub ended_now : Cause → ℕ → RunState → List Access → RunEnd
ended_now cause steps state accesses = record { cause = cause; steps = steps; state = state; accesses = accesses }

-- one more step was taken before
abbrev pub one_step : List Access → RunEnd → RunEnd
one_step accesses rest = ended_now rest.cause (suc rest.steps) rest.state (accesses ++ rest.accesses)

-- an event, and then the rest unless it stopped or all harts rest
abbrev pub then_run : Ended → RunState → List Access → (RunState → RunEnd) → RunEnd
then_run (ended.Stop cause) state accesses rest = ended_now cause 0 state accesses
then_run (ended.Value v) state accesses rest =
    if all_rest state then ended_now cause.AllRest 1 state accesses else one_step accesses (rest state)

-- the events of a schedule, a list of hart numbers, up to the first stop, to where all harts rest, or to the end
abbrev pub run : Meaning → List ℕ → RunState → RunEnd
run model [] state = ended_now cause.StepsDone 0 state []
run model (hart ∷ schedule) state =
    let first = event model hart state in then_run first.ended first.state first.accesses (run model schedule)
