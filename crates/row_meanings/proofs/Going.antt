-- On values of its parameters' shapes a builtin goes on where the table's conditions are met.
use Rattle.std.proofs.Common.{◌≡◌, ◌++◌, map, refl, Bool, true, false, Option, Some, None, if◌then◌else◌}
use Rattle.sail_types.specs.Numbers.{Positive}
use Rattle.sail_types.specs.declared.numbers.Num.{Num}
use Rattle.sail_types.specs.declared.values.Value.{Value, out-Value}
use Rattle.builtins.specs.RowValues.{Opened, row}
use Rattle.model_state.specs.declared.cause.Ended.{Ended as EndOfRow}
use Rattle.model_state.specs.declared.cause.Ended.TheVariants as E
use Rattle.model_state.specs.RunState.{Ran}
use Rattle.model_state.specs.StateRows.{state_row}
use Rattle.row_types.specs.declared.kinds.RowType.{RowType}
use Rattle.row_types.specs.RowTypes.{row_type}
use Rattle.row_types.specs.Calls.{gives, has_state, first_shape}
use Rattle.row_types.specs.laws.Rows.{rows_give}
use Rattle.row_types.specs.laws.StateEnds.{comes_by}
use Rattle.row_types.specs.laws.StateRows.{state_rows_give}
use Rattle.sail_core.specs.Run.{Now, needs, ended_as, after_row}
use Rattle.shape_joins.proofs.Order.{no}
use Rattle.shape_meanings.proofs.Sharing.{all_loosened}
use Rattle.row_meanings.specs.Rows.{GoesOn, RowsGoOn}

given_goes : (beyond : Num → Positive) (t : RowType) (os : Opened) (o : Option Value) (now : Now Value) → gives beyond t os o ≡ true → GoesOn (needs o now)
given_goes beyond t os None now h = no h
given_goes beyond t os (Some v) now h = tt

ended_goes : (e : EndOfRow) (after : Now Value) → GoesOn (ended_as e after)
ended_goes (E.Value v) after = tt
ended_goes (E.Stop cause) after = tt

ran_goes : (beyond : Num → Positive) (t : RowType) (os : Opened) (o : Option Ran) (now : Now Value) → comes_by beyond t os o ≡ true → GoesOn (after_row o now)
ran_goes beyond t os None now h = no h
ran_goes beyond t os (Some ran) now h = ended_goes ran.ended (record now { state = ran.state; accesses = now.accesses ++ ran.accesses })

pub rows_go_on : RowsGoOn
rows_go_on types beyond c r m vs there fit sized met room hart now = by_state (has_state r) refl
  where
    by_state : (b : Bool) → has_state r ≡ b → GoesOn (if b then after_row (state_row r hart now.state vs) now else needs (row r vs) now)
    by_state true on =
        ran_goes beyond (row_type r (first_shape m.params)) (map out-Value vs) (state_row r hart now.state vs) now
        (state_rows_give types beyond r m vs
        (record { state = on; member = there; fitting = all_loosened types vs c m.params fit; met = met }) hart now.state)
    by_state false without =
        given_goes beyond (row_type r (first_shape m.params)) (map out-Value vs) (row r vs) now
        (rows_give types vs beyond r m without there (all_loosened types vs c m.params fit) sized met room)
