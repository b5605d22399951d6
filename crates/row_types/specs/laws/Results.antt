-- What gives a result: an integer, a word, a truth or a text that is what the table says.
use Rattle.std.proofs.Common.{◌≡◌, ℕ, Bool, true, List, length, ap, sym, ◌∙◌, arith}
use Rattle.std.specs.Prelude.{◌^◌, ℤ, ◌≤ℤ◌, nat_abs, Option, Some}
use Rattle.std.proofs.lemmas.Int.{ints}
use Rattle.std.proofs.lemmas.Bool.{le-leb, leb-true}
use Rattle.sail_types.specs.Limits.{largest, is_small, is_width}
use Rattle.sail_types.specs.Numbers.{Positive}
use Rattle.sail_types.specs.declared.numbers.Num.{Num}
use Rattle.sail_types.specs.declared.values.Value.{Value, Value-F, out-Value, out-roll-Value}
use Rattle.sail_types.specs.declared.values.Value.TheOpen as W
use Rattle.sail_types.specs.declared.values.Value.TheVariants as V
use Rattle.builtins.specs.RowValues.{Bits, Opened, only, an_integer, a_word, a_truth, a_text, where_}
use Rattle.row_types.specs.declared.kinds.RowType.{RowType}
use Rattle.row_types.specs.Formulas.{least, most}
use Rattle.row_types.specs.Calls.{is_result, gives}

-- ---- integers within the limits

pub small_from : (z : ℤ) → is_small z ≡ true → (least ≤ℤ z) × (z ≤ℤ most)
unfolding largest
small_from z h =
    let k = leb-true (nat_abs z) (2 ^ 126) h in
    (omega (arith, ints, k), omega (arith, ints, k))

pub small_to : (z : ℤ) → least ≤ℤ z → z ≤ℤ most → is_small z ≡ true
unfolding largest
small_to z low high = le-leb (nat_abs z) (2 ^ 126) (omega (arith, ints))

-- ---- what is there

pub opened_integer : (z : ℤ) → out-Value (V.Integer z) ≡ W.Integer z
opened_integer z = ap out-Value (sym (V.rolls-Integer z)) ∙ out-roll-Value (W.Integer z)

pub opened_bits : (b : Bits) → out-Value (V.Bits b) ≡ W.Bits b
opened_bits b = ap out-Value (sym (V.rolls-Bits b)) ∙ out-roll-Value (W.Bits b)

pub opened_truth : (b : Bool) → out-Value (V.Truth b) ≡ W.Truth b
opened_truth b = ap out-Value (sym (V.rolls-Truth b)) ∙ out-roll-Value (W.Truth b)

pub opened_text : (text : List ℕ) → out-Value (V.String text) ≡ W.String text
opened_text text = ap out-Value (sym (V.rolls-String text)) ∙ out-roll-Value (W.String text)

pub opened_vector : (vs : List Value) → out-Value (V.Vector vs) ≡ W.Vector vs
opened_vector vs = ap out-Value (sym (V.rolls-Vector vs)) ∙ out-roll-Value (W.Vector vs)

module _ (beyond : Num → Positive) (t : RowType) (vs : Opened) where
  pub gives_value : (v : Value) (opened : Value-F Value) → out-Value v ≡ opened → is_result beyond t vs opened ≡ true
      → gives beyond t vs (Some v) ≡ true
  gives_value v opened e h = ap (is_result beyond t vs) e ∙ h

  pub gives_only : (b : Bool) (v : Value) → b ≡ true → gives beyond t vs (Some v) ≡ true
      → gives beyond t vs (only b v) ≡ true
  gives_only b v e h = ap (λ c. gives beyond t vs (only c v)) e ∙ h

  pub gives_where : (b : Bool) (o : Option Value) → b ≡ true → gives beyond t vs o ≡ true
      → gives beyond t vs (where_ b o) ≡ true
  gives_where b o e h = ap (λ c. gives beyond t vs (where_ c o)) e ∙ h

  pub gives_integer : (z : ℤ) → is_small z ≡ true → is_result beyond t vs (W.Integer z) ≡ true
      → gives beyond t vs (an_integer z) ≡ true
  gives_integer z small h = gives_only (is_small z) (V.Integer z) small
      (gives_value (V.Integer z) (W.Integer z) (opened_integer z) h)

  pub gives_word : (b : Bits) → is_width (length b) ≡ true → is_result beyond t vs (W.Bits b) ≡ true
      → gives beyond t vs (a_word b) ≡ true
  gives_word b width h = gives_only (is_width (length b)) (V.Bits b) width
      (gives_value (V.Bits b) (W.Bits b) (opened_bits b) h)

  pub gives_truth : (b : Bool) → is_result beyond t vs (W.Truth b) ≡ true → gives beyond t vs (a_truth b) ≡ true
  gives_truth b h = gives_value (V.Truth b) (W.Truth b) (opened_truth b) h

  pub gives_text : (text : List ℕ) → is_result beyond t vs (W.String text) ≡ true
      → gives beyond t vs (a_text text) ≡ true
  gives_text text h = gives_value (V.String text) (W.String text) (opened_text text) h
