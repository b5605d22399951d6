-- What the table of builtins says of a call of a builtin on the state.
use Rattle.std.specs.Prelude.{◌≡◌, Bool, true, false, List, map, Option, Some, None, Contains}
use Rattle.sail_types.specs.Numbers.{Positive}
use Rattle.sail_types.specs.Rows.{row_members}
use Rattle.sail_types.specs.Shapes.{each_fits, fits}
use Rattle.sail_types.specs.declared.members.Member.{Member}
use Rattle.sail_types.specs.declared.numbers.Num.{Num}
use Rattle.sail_types.specs.declared.rows.Row.{Row}
use Rattle.sail_types.specs.declared.table.Types.{Types}
use Rattle.sail_types.specs.declared.values.Value.{Value, out-Value}
use Rattle.model_state.specs.declared.cause.Ended.{Ended}
use Rattle.model_state.specs.declared.cause.Ended.TheVariants as ended
use Rattle.model_state.specs.RunState.{Ran}
use Rattle.builtins.specs.RowValues.{Opened}
use Rattle.row_types.specs.declared.kinds.RowType.{RowType}
use Rattle.row_types.specs.RowTypes.{row_type}
use Rattle.row_types.specs.Calls.{is_met, is_result, has_state, first_shape}

-- a call with these arguments ends with a stop, or with a result as the row of the table has it and within the limits
abbrev pub ends_by : (Num → Positive) → RowType → Opened → Ended → Bool
ends_by beyond t vs (ended.Value v) = is_result beyond t vs (out-Value v)
ends_by beyond t vs (ended.Stop cause) = true

-- the call is made, and ends so
abbrev pub comes_by : (Num → Positive) → RowType → Opened → Option Ran → Bool
comes_by beyond t vs None = false
comes_by beyond t vs (Some ran) = ends_by beyond t vs ran.ended

-- a member of a builtin on the state is given values of its parameters' shapes, and what the call owes is true of them
pub record IsOwed (types : Types) (beyond : Num → Positive) (r : Row) (m : Member) (vs : List Value) : Type 0 where
  pub state : has_state r ≡ true
  pub member : Contains (row_members types r) m
  pub fitting : each_fits (map (fits types) vs) m.params ≡ true
  pub met : is_met beyond (row_type r (first_shape m.params)) (map out-Value vs) ≡ true
