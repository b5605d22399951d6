-- A schedule that is run in pieces.
use Rattle.std.specs.Prelude.{◌≡◌, ℕ, ◌+◌, List, ◌++◌}
use Rattle.model_state.specs.declared.cause.Cause.{Cause}
use Rattle.model_state.specs.declared.cause.Cause.TheVariants as cause
use Rattle.model_state.specs.RunState.{RunState}
use Rattle.model_state.specs.Folds.{Meaning, IsNotDone, RunEnd, ended_now, run}

-- no step of the model ends with the stop at the schedule's end
abbrev pub NeverDone : Meaning → Type 0
NeverDone model = (hart : ℕ) (state : RunState) → IsNotDone (model.step hart state).ended

-- a run and the next one, by why the first ended: its steps and accesses come before
abbrev pub continued : Cause → RunEnd → RunEnd → RunEnd
continued cause.StepsDone first next =
    ended_now next.cause (first.steps + next.steps) next.state (first.accesses ++ next.accesses)
continued _ first next = first

-- a run, and then another one from where it ends, unless it stopped before its schedule's end
abbrev pub then_more : RunEnd → (RunState → RunEnd) → RunEnd
then_more first more = continued first.cause first (more first.state)

-- the run of two schedules that are joined is the run of the first, and then of the second
abbrev pub JoinedSchedules : Type 0
JoinedSchedules =
    (model : Meaning) → NeverDone model → (first second : List ℕ) (state : RunState)
    → run model (first ++ second) state ≡ then_more (run model first state) (run model second)
