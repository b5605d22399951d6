-- What the table of builtins says of a call, over integers: whether what the call owes is true of the numbers of its
-- arguments, and whether a value is what its result has to be.
use Rattle.std.specs.Bool.{beq}
use Rattle.std.specs.Prelude.{ℕ, ℤ, pos, ◌*ℤ◌, int_le, Bool, true, false, ◌&&◌, List, [], ◌∷◌, map, length}
use Rattle.std.specs.Prelude.{slice_index_or, Option, Some, None}
use Rattle.std.specs.Ordering.{int_eq}
use Rattle.std.specs.List.{list_all}
use Rattle.sail_types.specs.Limits.{is_small, is_width, is_length}
use Rattle.sail_types.specs.Numbers.{Assignment, Positive, number, true_in}
use Rattle.sail_types.specs.declared.numbers.Num.{Num}
use Rattle.sail_types.specs.declared.rows.Row.{Row}
use Rattle.sail_types.specs.declared.rows.Row.TheVariants as R
use Rattle.sail_types.specs.declared.shapes.Shape.{Shape}
use Rattle.sail_types.specs.declared.shapes.Shape.TheVariants as V
use Rattle.sail_types.specs.declared.values.Value.{Value, Value-F, out-Value}
use Rattle.sail_types.specs.declared.values.Value.TheOpen as W
use Rattle.builtins.specs.RowValues.{Opened}
use Rattle.row_types.specs.declared.kinds.RowType.{RowType}
use Rattle.row_types.specs.declared.kinds.Outcome.{Outcome}
use Rattle.row_types.specs.declared.kinds.Outcome.TheVariants as O
use Rattle.row_types.specs.declared.kinds.Product.{Product}
use Rattle.row_types.specs.declared.kinds.Product.TheVariants as P

-- ---- the numbers of values

-- of an integer itself, of bits the width, of a vector the length
abbrev pub number_of : Value-F Value → ℤ
number_of (W.Integer z) = z
number_of (W.Bits b) = pos (length b)
number_of (W.Vector vs) = pos (length vs)
number_of v = pos 0

abbrev pub truth_of : Value-F Value → Bool
truth_of (W.Truth b) = b
truth_of v = false

-- whether a value is within the limits of integers, widths and lengths
abbrev pub is_sized : Value-F Value → Bool
is_sized (W.Integer z) = is_small z
is_sized (W.Bits b) = is_width (length b)
is_sized (W.Vector vs) = is_length (length vs)
is_sized v = true

abbrev pub number_at : Opened → ℕ → ℤ
number_at vs i = slice_index_or (map number_of vs) i (pos 0)

abbrev pub product_of : Product → Opened → ℤ → ℤ
product_of P.Nothing vs answer = pos 0
product_of P.OfArguments vs answer = number_at vs 0 *ℤ number_at vs 1
product_of P.OfResult vs answer = number_at vs 1 *ℤ answer

-- what the variables of a row stand for in a call with these arguments, the number of whose result is this
abbrev pub variables : (Num → Positive) → Product → Opened → ℤ → Assignment
variables beyond p vs answer = record {
  int = λ i. slice_index_or
      (number_at vs 0 ∷ number_at vs 1 ∷ number_at vs 2 ∷ answer ∷ product_of p vs answer ∷ []) i (pos 0);
  bool = λ i. slice_index_or (map truth_of vs) i false;
  beyond = beyond;
}

-- ---- what a call owes

-- before there is a result; no condition of a row speaks of it
abbrev pub before : (Num → Positive) → RowType → Opened → Assignment
before beyond t vs = variables beyond t.product vs (pos 0)

-- whether all conditions of a row are true of these arguments
abbrev pub is_met : (Num → Positive) → RowType → Opened → Bool
is_met beyond t vs = list_all (true_in (before beyond t vs)) t.conditions

abbrev pub has_room : Assignment → Outcome → Bool
has_room nu (O.Bits t) = int_le (number nu t) (pos 128)
has_room nu (O.Vector t) = int_le (number nu t) (pos 4096)
has_room nu outcome = true

-- whether the width or length of the result is within its limit
abbrev pub has_space : (Num → Positive) → RowType → Opened → Bool
has_space beyond t vs = has_room (before beyond t vs) t.outcome

-- ---- what a result is

abbrev pub has : Assignment → Outcome → Value-F Value → Bool
has nu (O.Integer t) (W.Integer z) = int_eq z (number nu t)
has nu (O.Fresh low high facts) (W.Integer z) = (int_le (number nu low) z && int_le z (number nu high)) && list_all
    (true_in nu) facts
has nu (O.Truth c) (W.Truth b) = beq b (true_in nu c)
has nu O.Bool (W.Truth b) = true
has nu (O.Bits t) (W.Bits b) = int_eq (pos (length b)) (number nu t)
has nu (O.Vector t) (W.Vector vs) = int_eq (pos (length vs)) (number nu t)
has nu O.String (W.String s) = true
has nu O.Unit W.Unit = true
has nu outcome v = false

-- whether an opened value is the result of a call with these arguments, and within the limits
abbrev pub is_result : (Num → Positive) → RowType → Opened → Value-F Value → Bool
is_result beyond t vs v = has (variables beyond t.product vs (number_of v)) t.outcome v && is_sized v

-- whether there is a value, and it is such a result
abbrev pub gives : (Num → Positive) → RowType → Opened → Option Value → Bool
gives beyond t vs None = false
gives beyond t vs (Some v) = is_result beyond t vs (out-Value v)

-- ---- rows without state

abbrev pub has_state : Row → Bool
has_state R.MemRead = true
has_state R.MemReserve = true
has_state R.MemWrite = true
has_state R.MemWriteCond = true
has_state R.MemMapped = true
has_state R.Print = true
has_state R.PrintEndline = true
has_state R.ConsolePut = true
has_state row = false

-- the shape of the first parameter; every row has one
abbrev pub first_shape : List Shape → Shape
first_shape [] = V.Unit
first_shape (s ∷ ss) = s
