-- The rows of words: where what a call owes is true and the width of the result is within its limit, there is a value,
-- and it is what the table says.
use Rattle.std.proofs.Common.{◌≡◌, ℕ, ◌+◌, ◌-◌, ◌*◌, ◌≤◌, Bool, true, false, List, [], ◌∷◌, ◌++◌, length, replicate}
use Rattle.std.proofs.Common.{ap, sym, ◌∙◌, refl, arith}
use Rattle.std.specs.Prelude.{ℤ, pos, negsuc, ◌≤ℤ◌, nat_abs, nat_eq}
use Rattle.std.specs.Ordering.{int_eq}
use Rattle.std.proofs.lemmas.Int.{ints}
use Rattle.std.proofs.lemmas.Bool.{and_from, le-leb, leb-true, eq-eqb}
use Rattle.std.proofs.lemmas.Bool.Decides.{Decides-int_eq}
use Rattle.sail_base.specs.Bits.{value_of, not_bits, shl_bits, shr_bits, sar_bits}
use Rattle.sail_base.specs.laws.BitLaws.{length-bits_of}
use Rattle.sail_base.specs.laws.BitSigns.{length-not_bits}
use Rattle.sail_base.specs.laws.WordParts.{length-bits_of_int, length-bitwise, length-sar_bits, width-take}
use Rattle.sail_base.specs.laws.WordParts.{width-drop, width-append, width-replicate}
use Rattle.sail_types.specs.Limits.{is_width}
use Rattle.sail_types.specs.Numbers.{Positive, number}
use Rattle.sail_types.specs.Sums.{constant}
use Rattle.sail_types.specs.declared.numbers.Num.{Num}
use Rattle.sail_types.specs.declared.numbers.Con.{Con}
use Rattle.sail_types.specs.declared.rows.Row.TheVariants as R
use Rattle.sail_types.specs.declared.shapes.Shape.{Shape}
use Rattle.sail_types.specs.declared.values.Value.{Value, Value-F}
use Rattle.sail_types.specs.declared.values.Value.TheOpen as W
use Rattle.builtins.specs.RowValues.{Bits, Opened, a_word, a_truth, row_of, where_}
use Rattle.row_types.specs.declared.kinds.Outcome.{Outcome}
use Rattle.row_types.specs.declared.kinds.Outcome.TheVariants as O
use Rattle.row_types.specs.declared.kinds.Product.{Product}
use Rattle.row_types.specs.declared.kinds.Product.TheVariants as P
use Rattle.row_types.specs.Formulas.{first, second, at_most, as_wide}
use Rattle.row_types.specs.RowTypes.{with_product, under, alike, row_type}
use Rattle.row_types.specs.Calls.{variables, is_met, gives}
use Rattle.row_types.specs.laws.Formulas.{number_variable, one_from, at_least_from, as_wide_from}
use Rattle.row_types.specs.laws.Results.{gives_word, gives_truth, gives_where}

-- ---- widths

pub same_length : (m n : ℕ) → pos m ≡ pos n → m ≡ n
same_length m n h = ap nat_abs h

pub is_width_to : (n : ℕ) → n ≤ 128 → is_width n ≡ true
is_width_to n h = le-leb n 128 h

pub is_width_from : (n : ℕ) → is_width n ≡ true → n ≤ 128
is_width_from n h = leb-true n 128 h

length_shl : (b : Bits) (n : ℕ) → length (shl_bits b n) ≡ length b
length_shl b n = omega (
  arith,
  width-take (length b) (replicate n false ++ b),
  width-append
      (replicate n false) b,
  width-replicate n false,
)

length_shr : (b : Bits) (n : ℕ) → length (shr_bits b n) ≡ length b
length_shr b n = omega
    (arith, width-drop n (b ++ replicate n false), width-append b (replicate n false), width-replicate n false)

pub length_wider : (b : Bits) (n : ℕ) (c : Bool) → length b ≤ n → length (b ++ replicate (n - length b) c) ≡ n
length_wider b n c h = omega (arith, width-append b (replicate (n - length b) c), width-replicate (n - length b) c)

module _ (beyond : Num → Positive) where
  -- ---- words

  pub word_gives : (p : Product) (conditions : List Con) (t : Num) (vs : Opened) (r : Bits)
      → number (variables beyond p vs (pos (length r))) t ≡ pos (length r)
      → length r ≤ 128 → gives beyond (with_product p conditions (O.Bits t)) vs (a_word r) ≡ true
  word_gives p conditions t vs r e h =
      let nu = variables beyond p vs (pos (length r)) in
      let width : is_width (length r) ≡ true = is_width_to (length r) h in
      gives_word beyond (with_product p conditions (O.Bits t)) vs r width
      (and_from (int_eq (pos (length r)) (number nu t)) (is_width (length r))
      ((Decides-int_eq (pos (length r)) (number nu t)).1 (sym e)) width)

  -- as wide as the first argument
  first_gives : (conditions : List Con) (b r : Bits) → length r ≡ length b → is_width (length b) ≡ true
      → gives beyond (under conditions (O.Bits first)) (W.Bits b ∷ []) (a_word r) ≡ true
  first_gives conditions b r e h =
      word_gives P.Nothing conditions first (W.Bits b ∷ []) r
      (number_variable (variables beyond P.Nothing (W.Bits b ∷ []) (pos (length r))) 0 ∙ ap pos (sym e))
      (omega (arith, is_width_from (length b) h))

  pub first_of_two_gives : (conditions : List Con) (v : Value-F Value) (b r : Bits) → length r ≡ length b
      → is_width (length b) ≡ true
      → gives beyond (under conditions (O.Bits first)) (W.Bits b ∷ v ∷ []) (a_word r) ≡ true
  first_of_two_gives conditions v b r e h =
      word_gives P.Nothing conditions first (W.Bits b ∷ v ∷ []) r
      (number_variable (variables beyond P.Nothing (W.Bits b ∷ v ∷ []) (pos (length r))) 0 ∙ ap pos (sym e))
      (omega (arith, is_width_from (length b) h))

  -- ---- two words that are as wide

  pub alike_from : (outcome : Outcome) (b c : Bits) → is_met beyond (alike outcome) (W.Bits b ∷ W.Bits c ∷ []) ≡ true
      → length b ≡ length c
  alike_from outcome b c h = same_length (length b) (length c)
      (as_wide_from (variables beyond P.Nothing (W.Bits b ∷ W.Bits c ∷ []) (pos 0)) h)

  pub alike_word : (b c r : Bits) → (length b ≡ length c → length r ≡ length b) → is_width (length b) ≡ true
      → let vs : Opened = W.Bits b ∷ W.Bits c ∷ [] in
      is_met beyond (alike (O.Bits first)) vs ≡ true
      → gives beyond (alike (O.Bits first)) vs (where_ (nat_eq (length b) (length c)) (a_word r)) ≡ true
  alike_word b c r e width h =
      let same = alike_from (O.Bits first) b c h in
      gives_where beyond (alike (O.Bits first)) (W.Bits b ∷ W.Bits c ∷ []) (nat_eq (length b) (length c)) (a_word r)
      (eq-eqb (length b) (length c) same)
      (first_of_two_gives as_wide (W.Bits c) b r (e same) width)

  pub alike_truth : (b c : Bits) (x : Bool) → let vs : Opened = W.Bits b ∷ W.Bits c ∷ [] in
      is_met beyond (alike O.Bool) vs ≡ true
      → gives beyond (alike O.Bool) vs (where_ (nat_eq (length b) (length c)) (a_truth x)) ≡ true
  alike_truth b c x h =
      let vs : Opened = W.Bits b ∷ W.Bits c ∷ [] in
      gives_where beyond (alike O.Bool) vs (nat_eq (length b) (length c)) (a_truth x)
      (eq-eqb (length b) (length c) (alike_from O.Bool b c h))
      (gives_truth beyond (alike O.Bool) vs x refl)

  -- the rows of two words as wide, by what they make
  pub add_bits : (s : Shape) (b c : Bits) → is_width (length b) ≡ true → let vs : Opened = W.Bits b ∷ W.Bits c ∷ [] in
      is_met beyond (row_type R.AddBits s) vs ≡ true
      → gives beyond (row_type R.AddBits s) vs (row_of R.AddBits vs) ≡ true
  add_bits s b c width h = alike_word b c _ (λ e. length-bits_of (length b) (value_of b + value_of c)) width h

  pub sub_bits : (s : Shape) (b c : Bits) → is_width (length b) ≡ true → let vs : Opened = W.Bits b ∷ W.Bits c ∷ [] in
      is_met beyond (row_type R.SubBits s) vs ≡ true
      → gives beyond (row_type R.SubBits s) vs (row_of R.SubBits vs) ≡ true
  sub_bits s b c width h = alike_word b c _ (λ e. length-bits_of_int (length b) _) width h

  pub mult_bits : (s : Shape) (b c : Bits) → is_width (length b) ≡ true
      → let vs : Opened = W.Bits b ∷ W.Bits c ∷ [] in
      is_met beyond (row_type R.MultBits s) vs ≡ true
      → gives beyond (row_type R.MultBits s) vs (row_of R.MultBits vs) ≡ true
  mult_bits s b c width h = alike_word b c _ (λ e. length-bits_of (length b) (value_of b * value_of c)) width h

  pub and_bits : (s : Shape) (b c : Bits) → is_width (length b) ≡ true → let vs : Opened = W.Bits b ∷ W.Bits c ∷ [] in
      is_met beyond (row_type R.AndBits s) vs ≡ true
      → gives beyond (row_type R.AndBits s) vs (row_of R.AndBits vs) ≡ true
  and_bits s b c width h = alike_word b c _ (λ e. length-bitwise _ b c e) width h

  pub or_bits : (s : Shape) (b c : Bits) → is_width (length b) ≡ true → let vs : Opened = W.Bits b ∷ W.Bits c ∷ [] in
      is_met beyond (row_type R.OrBits s) vs ≡ true
      → gives beyond (row_type R.OrBits s) vs (row_of R.OrBits vs) ≡ true
  or_bits s b c width h = alike_word b c _ (λ e. length-bitwise _ b c e) width h

  pub xor_bits : (s : Shape) (b c : Bits) → is_width (length b) ≡ true → let vs : Opened = W.Bits b ∷ W.Bits c ∷ [] in
      is_met beyond (row_type R.XorBits s) vs ≡ true
      → gives beyond (row_type R.XorBits s) vs (row_of R.XorBits vs) ≡ true
  xor_bits s b c width h = alike_word b c _ (λ e. length-bitwise _ b c e) width h

  -- ---- words that owe nothing

  pub not_bits_row : (s : Shape) (b : Bits) → is_width (length b) ≡ true
      → gives beyond (row_type R.NotBits s) (W.Bits b ∷ []) (row_of R.NotBits (W.Bits b ∷ [])) ≡ true
  not_bits_row s b width = first_gives [] b (not_bits b) (length-not_bits b) width

  pub add_bits_int : (s : Shape) (b : Bits) (i : ℤ) → is_width (length b) ≡ true
      → let vs : Opened = W.Bits b ∷ W.Integer i ∷ [] in
      gives beyond (row_type R.AddBitsInt s) vs (row_of R.AddBitsInt vs) ≡ true
  add_bits_int s b i width = first_of_two_gives [] (W.Integer i) b _ (length-bits_of (length b) _) width

  pub sub_bits_int : (s : Shape) (b : Bits) (i : ℤ) → is_width (length b) ≡ true
      → let vs : Opened = W.Bits b ∷ W.Integer i ∷ [] in
      gives beyond (row_type R.SubBitsInt s) vs (row_of R.SubBitsInt vs) ≡ true
  sub_bits_int s b i width = first_of_two_gives [] (W.Integer i) b _ (length-bits_of_int (length b) _) width

  pub shiftl_bits : (s : Shape) (b c : Bits) → is_width (length b) ≡ true
      → let vs : Opened = W.Bits b ∷ W.Bits c ∷ [] in
      gives beyond (row_type R.ShiftlBits s) vs (row_of R.ShiftlBits vs) ≡ true
  shiftl_bits s b c width = first_of_two_gives [] (W.Bits c) b (shl_bits b (value_of c))
      (length_shl b (value_of c)) width

  pub shiftr_bits : (s : Shape) (b c : Bits) → is_width (length b) ≡ true
      → let vs : Opened = W.Bits b ∷ W.Bits c ∷ [] in
      gives beyond (row_type R.ShiftrBits s) vs (row_of R.ShiftrBits vs) ≡ true
  shiftr_bits s b c width = first_of_two_gives [] (W.Bits c) b (shr_bits b (value_of c))
      (length_shr b (value_of c)) width

  pub arith_shiftr_bits : (s : Shape) (b c : Bits) → is_width (length b) ≡ true
      → let vs : Opened = W.Bits b ∷ W.Bits c ∷ [] in
      gives beyond (row_type R.ArithShiftrBits s) vs (row_of R.ArithShiftrBits vs) ≡ true
  arith_shiftr_bits s b c width = first_of_two_gives [] (W.Bits c) b (sar_bits b (value_of c))
      (length-sar_bits b (value_of c)) width

  -- ---- shifts by an integer

  amount_from : (b : Bits) (i : ℤ)
      → is_met beyond (under (at_most (constant (pos 0)) second ∷ []) (O.Bits first))
      (W.Bits b ∷ W.Integer i ∷ []) ≡ true → pos 0 ≤ℤ i
  amount_from b i h =
      let nu = variables beyond P.Nothing (W.Bits b ∷ W.Integer i ∷ []) (pos 0) in
      at_least_from nu (pos 0) 1 (one_from nu (at_most (constant (pos 0)) second) h)

  pub shiftl : (s : Shape) (b : Bits) (i : ℤ) → is_width (length b) ≡ true
      → let vs : Opened = W.Bits b ∷ W.Integer i ∷ [] in
      is_met beyond (row_type R.Shiftl s) vs ≡ true
      → gives beyond (row_type R.Shiftl s) vs (row_of R.Shiftl vs) ≡ true
  shiftl s b (pos n) width h = first_of_two_gives (at_most (constant (pos 0)) second ∷ []) (W.Integer (pos n)) b
      (shl_bits b n) (length_shl b n) width
  shiftl s b (negsuc n) width h = let p = amount_from b (negsuc n) h in absurd (omega (arith, ints))

  pub shiftr : (s : Shape) (b : Bits) (i : ℤ) → is_width (length b) ≡ true
      → let vs : Opened = W.Bits b ∷ W.Integer i ∷ [] in
      is_met beyond (row_type R.Shiftr s) vs ≡ true
      → gives beyond (row_type R.Shiftr s) vs (row_of R.Shiftr vs) ≡ true
  shiftr s b (pos n) width h = first_of_two_gives (at_most (constant (pos 0)) second ∷ []) (W.Integer (pos n)) b
      (shr_bits b n) (length_shr b n) width
  shiftr s b (negsuc n) width h = let p = amount_from b (negsuc n) h in absurd (omega (arith, ints))

  pub arith_shiftr : (s : Shape) (b : Bits) (i : ℤ) → is_width (length b) ≡ true
      → let vs : Opened = W.Bits b ∷ W.Integer i ∷ [] in
      is_met beyond (row_type R.ArithShiftr s) vs ≡ true
      → gives beyond (row_type R.ArithShiftr s) vs (row_of R.ArithShiftr vs) ≡ true
  arith_shiftr s b (pos n) width h = first_of_two_gives (at_most (constant (pos 0)) second ∷ []) (W.Integer (pos n)) b
      (sar_bits b n) (length-sar_bits b n) width
  arith_shiftr s b (negsuc n) width h = let p = amount_from b (negsuc n) h in absurd (omega (arith, ints))

  -- ---- comparisons

  pub lt_u : (s : Shape) (b c : Bits) → let vs : Opened = W.Bits b ∷ W.Bits c ∷ [] in
      is_met beyond (row_type R.LtU s) vs ≡ true → gives beyond (row_type R.LtU s) vs (row_of R.LtU vs) ≡ true
  lt_u s b c h = alike_truth b c _ h

  pub lteq_u : (s : Shape) (b c : Bits) → let vs : Opened = W.Bits b ∷ W.Bits c ∷ [] in
      is_met beyond (row_type R.LteqU s) vs ≡ true → gives beyond (row_type R.LteqU s) vs (row_of R.LteqU vs) ≡ true
  lteq_u s b c h = alike_truth b c _ h

  pub gt_u : (s : Shape) (b c : Bits) → let vs : Opened = W.Bits b ∷ W.Bits c ∷ [] in
      is_met beyond (row_type R.GtU s) vs ≡ true → gives beyond (row_type R.GtU s) vs (row_of R.GtU vs) ≡ true
  gt_u s b c h = alike_truth b c _ h

  pub gteq_u : (s : Shape) (b c : Bits) → let vs : Opened = W.Bits b ∷ W.Bits c ∷ [] in
      is_met beyond (row_type R.GteqU s) vs ≡ true → gives beyond (row_type R.GteqU s) vs (row_of R.GteqU vs) ≡ true
  gteq_u s b c h = alike_truth b c _ h

  pub lt_s : (s : Shape) (b c : Bits) → let vs : Opened = W.Bits b ∷ W.Bits c ∷ [] in
      is_met beyond (row_type R.LtS s) vs ≡ true → gives beyond (row_type R.LtS s) vs (row_of R.LtS vs) ≡ true
  lt_s s b c h = alike_truth b c _ h

  pub lteq_s : (s : Shape) (b c : Bits) → let vs : Opened = W.Bits b ∷ W.Bits c ∷ [] in
      is_met beyond (row_type R.LteqS s) vs ≡ true → gives beyond (row_type R.LteqS s) vs (row_of R.LteqS vs) ≡ true
  lteq_s s b c h = alike_truth b c _ h

  pub gt_s : (s : Shape) (b c : Bits) → let vs : Opened = W.Bits b ∷ W.Bits c ∷ [] in
      is_met beyond (row_type R.GtS s) vs ≡ true → gives beyond (row_type R.GtS s) vs (row_of R.GtS vs) ≡ true
  gt_s s b c h = alike_truth b c _ h

  pub gteq_s : (s : Shape) (b c : Bits) → let vs : Opened = W.Bits b ∷ W.Bits c ∷ [] in
      is_met beyond (row_type R.GteqS s) vs ≡ true → gives beyond (row_type R.GteqS s) vs (row_of R.GteqS vs) ≡ true
  gteq_s s b c h = alike_truth b c _ h
