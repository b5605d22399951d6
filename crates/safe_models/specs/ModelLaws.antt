-- A model that passes the test: what is left to ask of its functions and mappings is of its tables.
use Rattle.std.specs.Prelude.{◌≡◌, ℕ, true, slice_get, Some}
use Rattle.sail_types.specs.Numbers.{Positive}
use Rattle.sail_core.specs.declared.model.CoreModel.{CoreModel}
use Rattle.sail_core.specs.declared.model.Direction.{Direction}
use Rattle.sail_core.specs.declared.model.Function.{Function}
use Rattle.checked_meaning.specs.Checked.{Checks}
use Rattle.soundness_steps.specs.Works.{Coverage, Setting, Work, nobody}
use Rattle.soundness_calls.specs.Directions.{Side}
use Rattle.sail_soundness.specs.Whole.{ModelStands}
use Rattle.met_notes.specs.Covers.{side_at}
use Rattle.whole_runs.specs.Never.{DirectionStands, FunctionStands, setting_in}
use Rattle.safe_models.specs.ModelTests.{model_fits}

-- what is known besides of the tables of a model at work
pub record ModelKnown (set : Setting) : Type 0 where
  pub tables : (x : Work) → set.covered.function x ≡ true → ModelStands set x
  pub nowhere : ModelStands set nobody

abbrev pub TestedModelsStand : Type 0
TestedModelsStand = (m : CoreModel) (past : Positive) (hart : ℕ) (covered : Coverage) (k : Checks) (rank : ℕ → ℕ) → model_fits m ≡ true
    → ModelKnown (setting_in m past hart covered)
    → ((x : Work) (f : Function) → covered.function x ≡ true → slice_get m.functions x.function ≡ Some f
    → FunctionStands (setting_in m past hart covered) k x f)
    × ((d : ℕ) (n : Direction) (side : Side) → slice_get m.directions d ≡ Some n → side_at m.directions d ≡ Some side
    → DirectionStands (setting_in m past hart covered) rank k d n side)
