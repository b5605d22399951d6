-- A run: RAM with the image placed, the start, the events, and the report.
use Rattle.std.specs.Prelude.{ℕ, List, ◌++◌, replicate, Option, Some, None}
use Rattle.elf_load.specs.Placed.{placed}
use Rattle.elf_load.specs.declared.image.Image.{Image}
use Rattle.harts.specs.Schedule.{schedule}
use Rattle.model_state.specs.Folds.{Meaning, RunEnd, ended_now, start, run}
use Rattle.model_state.specs.Report.{report_text}
use Rattle.model_state.specs.RunState.{RunState, Access, fresh}
use Rattle.model_state.specs.declared.cause.Cause.{Cause}
use Rattle.sail_types.specs.declared.table.Types.{Types}
use Rattle.sail_words.specs.declared.run.Setup.{Setup}

-- RAM, zeros at first, once the image is placed
abbrev pub ram : Setup → Image → List ℕ
ram setup image = placed image setup.ram_base (replicate setup.ram_size 0)

-- the state at the beginning, of a model with these named types, over RAM of these bytes
abbrev pub beginning : Setup → Types → Meaning → List ℕ → RunState
beginning setup types model bytes = fresh types model.registers setup.harts setup.ram_base bytes

-- these accesses were made before
abbrev pub behind : List Access → RunEnd → RunEnd
behind accesses end = record end { accesses = accesses ++ end.accesses }

-- a start's stop ends the run before its first event
abbrev pub then_events : Option Cause → RunState → List Access → (RunState → RunEnd) → RunEnd
then_events (Some cause) state accesses events = ended_now cause 0 state accesses
then_events None state accesses events = behind accesses (events state)

-- the start at an entry, and then the events of a schedule unless it stopped
abbrev pub started_run : Meaning → ℕ → List ℕ → RunState → RunEnd
started_run model entry events state =
    let first = start model entry state in then_events first.stop first.state first.accesses (run model events)

-- how a run ends from a state
abbrev pub end_from : Setup → Meaning → ℕ → RunState → RunEnd
end_from setup model entry state = started_run model entry (schedule setup.order setup.steps) state

-- and from the beginning, over RAM of these bytes
abbrev pub end_of : Setup → Types → Meaning → ℕ → List ℕ → RunEnd
end_of setup types model entry bytes = end_from setup model entry (beginning setup types model bytes)

-- the report of an ending, over RAM of these bytes
abbrev pub report_of : List ℕ → RunEnd → List ℕ
report_of bytes end = report_text end.state bytes end.cause end.steps

-- what a run writes
abbrev pub run_text : Setup → Types → Meaning → ℕ → List ℕ → List ℕ
run_text setup types model entry bytes = report_of bytes (end_of setup types model entry bytes)
