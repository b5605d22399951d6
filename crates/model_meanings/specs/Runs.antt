-- Whole runs: where a core means what a text means, its start and the events of each schedule come to what those of the text come to.
use Rattle.std.specs.Prelude.{◌≡◌, ℕ, List}
use Rattle.model_state.specs.Folds.{run, start}
use Rattle.model_state.specs.RunState.{RunState}
use Rattle.sail_core.specs.declared.model.CoreModel.{CoreModel}
use Rattle.sail_core.specs.Start.{model_meaning}
use Rattle.sail_meaning.specs.Start.{text_meaning}
use Rattle.sail_meaning.specs.Text.{Text}
use Rattle.shape_meanings.specs.Keeping.{RegistersFit}
use Rattle.shape_meanings.specs.Models.{CoreMeansText, register_shapes}

-- from a state in which registers have values of their shapes: where the start stops, or the state and accesses behind it; and why and after how many
-- steps the run of a schedule ends, with its state and accesses
abbrev pub RunsAreAlike : Type 0
RunsAreAlike =
    (text : Text) (core : CoreModel) → CoreMeansText text core
    → (state : RunState) → RegistersFit text.types (register_shapes text.registers) state
    → ((entry : ℕ) → (start (model_meaning core) entry state ≡ start (text_meaning text) entry state)
    × RegistersFit text.types (register_shapes text.registers) (start (text_meaning text) entry state).state)
    × ((schedule : List ℕ) → run (model_meaning core) schedule state ≡ run (text_meaning text) schedule state)
