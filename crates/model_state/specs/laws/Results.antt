-- What a typed call of a builtin comes to as a part of a run.
use Rattle.std.specs.Prelude.{◌≡◌, ℕ, Bool, List, Option, Some, None, Result, Ok, Err}
use Rattle.sail_types.specs.declared.values.Value.{Value}
use Rattle.sail_types.specs.declared.values.Value.TheVariants as value
use Rattle.model_state.specs.declared.cause.Ended.{Ended}
use Rattle.model_state.specs.declared.cause.Ended.TheVariants as ended
use Rattle.model_state.specs.declared.cause.RowError.{RowError}
use Rattle.model_state.specs.declared.cause.RowError.TheVariants as error
use Rattle.model_state.specs.RunState.{RunState}
use Rattle.model_state.specs.StateRows.{read_result, write_result, write_cond_result, put_result}
use Rattle.model_state.specs.StateRows.{reading, reserving, writing, writing_cond, putting, ended_by}

-- the ending of a call with this result, whose value is read as one of the model; none where memory was wanting
abbrev pub ended_with : {A : Type 0} → (A → Value) → Result A RowError → Option Ended
ended_with read (Ok x) = Some (ended.Value (read x))
ended_with read (Err (error.Stop cause)) = Some (ended.Stop cause)
ended_with read (Err error.OutOfMemory) = None

-- each builtin's result, as its contract has it, ends as the call does in a run
pub record ResultsEnd : Type 0 where
  pub reads : (s : RunState) (hart w a : ℕ) → ended_with value.Bits (read_result s w a) ≡ Some (ended_by (reading hart w a) s)
  pub reserves : (s : RunState) (hart w a : ℕ) → ended_with value.Bits (read_result s w a) ≡ Some (ended_by (reserving hart w a) s)
  pub writes : (s : RunState) (hart w a : ℕ) (word : List Bool)
      → ended_with (λ done. value.Unit) (write_result s w a) ≡ Some (ended_by (writing hart w a word) s)
  pub writes_cond : (s : RunState) (hart w a : ℕ) (word : List Bool)
      → ended_with value.Truth (write_cond_result hart s w a) ≡ Some (ended_by (writing_cond hart w a word) s)
  pub puts : (s : RunState) (hart : ℕ) (text : List ℕ)
      → ended_with (λ done. value.Unit) (put_result s text) ≡ Some (ended_by (putting hart text) s)
