-- Texts that the program accepts are never stuck.
use Rattle.std.specs.Prelude.{◌≡◌, ◌<◌, ◌≤◌, ℕ, List, Option}
use Rattle.sail_types.specs.Numbers.{Positive}
use Rattle.sail_syntax.specs.declared.definitions.Def.{Def}
use Rattle.scattered.specs.Gathered.{gathered}
use Rattle.model_state.specs.RunState.{RunState, fresh}
use Rattle.sail_core.specs.Program.{plain}
use Rattle.sail_core.specs.declared.model.CoreModel.{CoreModel}
use Rattle.sail_meaning.specs.Start.{init_ran, reset_ran, step_ran}
use Rattle.sail_meaning.specs.Text.{Text}
use Rattle.shapes.specs.Tabled.{tabled_of}
use Rattle.known_texts.specs.Texts.{text_of}
use Rattle.shape_meanings.specs.Models.{CoreMeansText, register_shapes}
use Rattle.constraint_gen.specs.Obligations.{obligations}
use Rattle.checked_meaning.specs.Checked.{Checks}
use Rattle.goal_laws.specs.Goals.{AllHold}
use Rattle.soundness_steps.specs.Works.{Coverage}
use Rattle.text_progress.specs.Laws.{core_of}
use Rattle.sail_compile.specs.Checked.{no_cycle}
use Rattle.sail_compile.specs.Models.{AreAccepted}
use Rattle.sail_compile.specs.declared.models.Accepted.{Accepted}
use Rattle.accepted_models.specs.Starts.{HaveZeros}
use Rattle.whole_runs.specs.Runs.{AreThere, Parts, RunGoes}
use Rattle.whole_runs.specs.Safe.{CoversThroughout, IsFit, core_parts}

-- the parts of a text's runs, by its own meaning
abbrev pub text_parts : Text → Parts
text_parts text = record { init = init_ran text; reset = reset_ran text; step = step_ran text }

-- the same types, and registers of the same shapes
pub record IsOfText (text : Text) (m : CoreModel) : Type 0 where
  pub types : text.types ≡ m.types
  pub registers : register_shapes text.registers ≡ register_shapes m.registers

-- where a run of the core goes on, so does that of its text
abbrev pub TextsRunSafely : Type 0
TextsRunSafely = (text : Text) (m : CoreModel) (past : Positive) (count : ℕ) → IsOfText text m → CoreMeansText text m
    → (entry : ℕ) (schedule : List ℕ) (state : RunState) → IsFit m past count state
    → RunGoes (core_parts plain m) (IsFit m past count) count entry schedule state
    → RunGoes (text_parts text) (IsFit m past count) count entry schedule state

-- the state in which a run begins is such a one, where the type of each register has a zero
abbrev pub FreshStatesFit : Type 0
FreshStatesFit = (m : CoreModel) (past : Positive) → HaveZeros m.types m.registers → (harts base : ℕ) (bytes : List ℕ)
    → IsFit m past harts (fresh m.types m.registers harts base bytes)

-- ---- accepted texts

-- the numbers of the cycles of calls that functions are in
abbrev pub Cycles : Type 0
Cycles = List ℕ → Option ℕ

-- what gathered definitions mean
abbrev pub meant_of : List Def → Cycles → Text
meant_of text cycle = text_of (tabled_of text) cycle text

-- the run of a text with so many harts, from any state in which their registers belong to their types, under any schedule
abbrev pub RunsSafely : List Def → Cycles → Positive → ℕ → Type 0
RunsSafely text cycle past count =
    (entry : ℕ) (schedule : List ℕ) → AreThere count schedule → (state : RunState) → IsFit (core_of text cycle) past count state
    → RunGoes (text_parts (meant_of text cycle)) (IsFit (core_of text cycle) past count) count entry schedule state

-- where instances cover what is read of the core
abbrev pub RunsIfCovered : List Def → Cycles → Type 0
RunsIfCovered text cycle = (past : Positive) (covered : Coverage) (k : Checks) (rank : ℕ → ℕ) (count : ℕ) → 0 < count → count ≤ 8
    → CoversThroughout (core_of text cycle) past covered k rank count → RunsSafely text cycle past count

-- whatever the numbers of its cycles of calls, where the obligations of the core hold
abbrev pub AcceptedCoresRunSafely : Type 0
AcceptedCoresRunSafely = (texts : List (List ℕ)) (made : Accepted) (accepted : AreAccepted texts made) (cycle : Cycles)
    → AllHold (obligations (core_of (gathered accepted.definitions) cycle)) → RunsIfCovered (gathered accepted.definitions) cycle

-- those of the core without such numbers do
abbrev pub AcceptedModelsRunSafely : Type 0
AcceptedModelsRunSafely =
    (texts : List (List ℕ)) (made : Accepted) (accepted : AreAccepted texts made) → RunsIfCovered (gathered accepted.definitions) no_cycle
