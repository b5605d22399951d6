-- What follows of texts that the program accepts: nothing of their core is stuck, but where a condition on sizes or numbers fails.
use Rattle.std.specs.Prelude.{◌≡◌, ℕ, List, [], Option}
use Rattle.scattered.specs.Gathered.{gathered}
use Rattle.model_state.specs.RunState.{fresh}
use Rattle.shape_progress.specs.Checks.{Table}
use Rattle.model_progress.specs.Checked.{checked_openings}
use Rattle.model_progress.specs.Progress.{OpeningsGo}
use Rattle.text_progress.specs.Laws.{CoreGoesOn, around_core, core_of}
use Rattle.sail_top.specs.Models.{AreAccepted}
use Rattle.sail_top.specs.Accepted.{Accepted}
use Rattle.accepted_models.specs.Starts.{HaveZeros}

-- where texts are accepted, the core of their definitions, gathered, goes on, whatever the numbers of its cycles of calls
abbrev pub AcceptedModelsGoOn : Type 0
AcceptedModelsGoOn =
    (texts : List (List ℕ)) (made : Accepted) (accepted : AreAccepted texts made) (cycle : List ℕ → Option ℕ)
    → CoreGoesOn (gathered accepted.definitions) cycle

-- so its openings come to values of their shapes from the state in which a run begins, where the type of each register has a zero, or they stop
abbrev pub AcceptedModelsOpen : Type 0
AcceptedModelsOpen =
    (texts : List (List ℕ)) (made : Accepted) (accepted : AreAccepted texts made) (cycle : List ℕ → Option ℕ)
    → HaveZeros (core_of (gathered accepted.definitions) cycle).types (core_of (gathered accepted.definitions) cycle).registers
    → (t : Table) → t.types ≡ (core_of (gathered accepted.definitions) cycle).types → (harts base : ℕ) (bytes : List ℕ)
    → OpeningsGo (around_core (gathered accepted.definitions) cycle) (checked_openings t (core_of (gathered accepted.definitions) cycle).openings []
    (fresh (core_of (gathered accepted.definitions) cycle).types (core_of (gathered accepted.definitions) cycle).registers harts base bytes))
