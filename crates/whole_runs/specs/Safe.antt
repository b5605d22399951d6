-- A model whose runs are never stuck: what is known of it, whatever the hart at work.
use Rattle.std.specs.Prelude.{◌≡◌, ◌<◌, ℕ, false, List, [], length}
use Rattle.sail_types.specs.Numbers.{Positive}
use Rattle.model_state.specs.RunState.{RunState}
use Rattle.sail_core.specs.Program.{Sizing, plain}
use Rattle.sail_core.specs.Start.{init_ran, reset_ran, step_ran}
use Rattle.sail_core.specs.declared.model.CoreModel.{CoreModel}
use Rattle.constraint_gen.specs.Obligations.{obligations}
use Rattle.checked_meaning.specs.Checked.{Checks, checking}
use Rattle.goal_laws.specs.Goals.{AllHold}
use Rattle.soundness_steps.specs.Works.{Coverage}
use Rattle.soundness_steps.specs.States.{AllHarts}
use Rattle.soundness_calls.specs.Events.{checks_of}
use Rattle.whole_runs.specs.Initials.{pure_setting}
use Rattle.met_notes.specs.Covers.{Covers}
use Rattle.whole_runs.specs.Never.{AllEnd, IsFound, Stands, setting_in}
use Rattle.whole_runs.specs.Runs.{AreThere, Goes, Parts, PartsGo, RunGoes}

-- the parts of a model's runs in a reading of it
abbrev pub core_parts : {X : Type 0} → Sizing X → CoreModel → Parts
core_parts sizing m = record { init = init_ran sizing m; reset = reset_ran sizing m; step = step_ran sizing m }

-- where nothing has to be covered
abbrev pub nothing_covered : Coverage
nothing_covered = record { function = λ x. false; direction = λ d. false; exact = false; fitted = false }

-- there are so many harts, and each register of each belongs to its type
pub record IsFit (m : CoreModel) (past : Positive) (count : ℕ) (state : RunState) : Type 0 where
  pub registers : AllHarts (pure_setting m past nothing_covered m.registers []) state.harts
  pub harts : length state.harts ≡ count

-- instances cover what is read of the model, whatever hart is at work
abbrev pub CoversThroughout : CoreModel → Positive → Coverage → Checks → (ℕ → ℕ) → ℕ → Type 0
CoversThroughout m past covered k rank count = (hart : ℕ) → hart < count → Covers (setting_in m past hart covered) m k rank

-- it stands so
abbrev pub StandsThroughout : CoreModel → Positive → Coverage → Checks → (ℕ → ℕ) → ℕ → Type 0
StandsThroughout m past covered k rank count = (hart : ℕ) → hart < count → Stands (setting_in m past hart covered) m k rank

-- so it is of what the tables give
abbrev pub IsFoundThroughout : CoreModel → Positive → Coverage → ℕ → Type 0
IsFoundThroughout m past covered count = (hart : ℕ) → hart < count → IsFound (setting_in m past hart covered) m

-- where openings end, no part of a run is stuck, in the reading and plainly; whole runs and the start aren't, however openings end
abbrev pub ModelsRunSafely : Type 0
ModelsRunSafely = (m : CoreModel) (past : Positive) (covered : Coverage) (k : Checks) (rank : ℕ → ℕ) (count : ℕ) → 0 < count
    → AllHold (obligations m) → IsFoundThroughout m past covered count
    → CoversThroughout m past covered k rank count → StandsThroughout m past covered k rank count
    → (AllEnd m k → PartsGo (core_parts (checking (checks_of m k)) m) count (IsFit m past count) × PartsGo (core_parts plain m) count (IsFit m past count))
    × ((entry : ℕ) (schedule : List ℕ) → AreThere count schedule → (state : RunState) → IsFit m past count state
    → RunGoes (core_parts plain m) (IsFit m past count) count entry schedule state)
    × ((state : RunState) → IsFit m past count state → Goes (init_ran (checking (checks_of m k)) m state) (λ ran. IsFit m past count ran.state))
