-- The rows that make integers of words, texts, one bit and vectors, and those that compare values of other shapes: where
-- what a call owes is true, there is a value, and it is what the table says.
use Rattle.std.proofs.Common.{◌≡◌, ℕ, suc, ◌-◌, ◌*◌, ◌^◌, ◌≤◌, Bool, true, false, not, List, [], ◌∷◌, length}
use Rattle.std.proofs.Common.{replicate, reverse, take_while, ap, sym, ◌∙◌, refl, subst, arith, pow_mono, pow-suc}
use Rattle.std.proofs.Common.{⊎_elim}
use Rattle.std.specs.Prelude.{ℤ, pos, negsuc, ◌+ℤ◌, ◌*ℤ◌, ◌≤ℤ◌, neg_ℤ, nat_abs, nat_le, nat_eq, cond, ◌&&◌}
use Rattle.std.specs.Prelude.{option_map, Some, bytes_eq}
use Rattle.std.specs.Bool.{beq}
use Rattle.std.specs.Ordering.{int_eq}
use Rattle.std.proofs.lemmas.Int.{ints}
use Rattle.std.proofs.lemmas.Bool.{and_from, le-leb, leb-true, eq-eqb}
use Rattle.std.proofs.lemmas.Bool.Decides.{Decides-int_eq}
use Rattle.std.proofs.lemmas.List.{length-reverse, length-replicate}
use Rattle.std.proofs.lemmas.List.Sums.{take_while-cons}
use Rattle.sail_base.specs.Bits.{value_of, signed_of, eq_bits, leading_zeros, top_bit}
use Rattle.sail_base.specs.laws.BitLaws.{value_of-lt}
use Rattle.sail_base.specs.laws.BitSigns.{value_of-not_bits, top_bit-true, top_bit-false, signed_of-negative}
use Rattle.sail_base.specs.laws.BitSigns.{signed_of-positive, signed_of-bound, by_top}
use Rattle.sail_types.specs.Limits.{largest, is_small, is_width, is_length}
use Rattle.sail_types.specs.Numbers.{Positive, number}
use Rattle.sail_types.specs.Sums.{constant}
use Rattle.sail_types.specs.declared.numbers.Num.{Num}
use Rattle.sail_types.specs.declared.numbers.Comparison.{Comparison}
use Rattle.sail_types.specs.declared.numbers.Comparison.TheVariants as Is
use Rattle.sail_types.specs.declared.rows.Row.TheVariants as R
use Rattle.sail_types.specs.declared.shapes.Shape.{Shape}
use Rattle.sail_types.specs.declared.shapes.Shape.TheOpen as S
use Rattle.sail_types.specs.declared.values.Value.{Value, Value-F, roll-Value}
use Rattle.sail_types.specs.declared.values.Value.TheOpen as W
use Rattle.sail_types.specs.declared.values.Value.TheVariants as V
use Rattle.sail_types.proofs.Substituted.{number_constant}
use Rattle.sail_types.proofs.Integers.{one_time, minus_one_time}
use Rattle.builtins.specs.RowValues.{Bits, Opened, an_integer, row_of, only}
use Rattle.row_types.specs.declared.kinds.Outcome.TheVariants as O
use Rattle.row_types.specs.declared.kinds.Product.TheVariants as P
use Rattle.row_types.specs.Formulas.{first, times_power, at_most}
use Rattle.row_types.specs.RowTypes.{under, alike, compared, row_type}
use Rattle.row_types.specs.Calls.{variables, is_met, has_space, gives}
use Rattle.row_types.specs.laws.Formulas.{number_variable, number_times_power, one_from, two_from, at_least_from}
use Rattle.row_types.specs.laws.Formulas.{up_to_from, le_from}
use Rattle.row_types.specs.laws.Results.{opened_vector, gives_value, gives_truth, gives_text, gives_where}
use Rattle.row_types.specs.laws.IntegerRows.{integer_gives, fresh_gives}
use Rattle.row_types.specs.laws.WordRows.{word_gives, alike_from}

-- ---- integers of words

small_below : (n k : ℕ) → n ≤ 2 ^ k → k ≤ 126 → is_small (pos n) ≡ true
unfolding largest
small_below n k h m = let p : 2 ^ k ≤ 2 ^ 126 = pow_mono m in le-leb n (2 ^ 126) (omega arith)

small_signed : (b : Bits) → length b ≤ 126 → is_small (signed_of b) ≡ true
unfolding largest
small_signed b m =
    let p : 2 ^ length b ≤ 2 ^ 126 = pow_mono m in
    let q = signed_of-bound b in
    le-leb (nat_abs (signed_of b)) (2 ^ 126) (omega arith)

small_count : (n : ℕ) → n ≤ 4096 → is_small (pos n) ≡ true
unfolding largest
small_count n h = le-leb n (2 ^ 126) (omega arith)

power_more : (v : ℕ) → 2 ^ suc v ≡ 2 * 2 ^ v
power_more v = omega (arith, pow-suc 2 v)

signed_range : (b : Bits) (v : ℕ) → length b ≡ suc v
    → (neg_ℤ (pos (2 ^ v)) ≤ℤ signed_of b) × (signed_of b ≤ℤ (pos (2 ^ v) +ℤ negsuc 0))
signed_range b v e =
    let w : 2 ^ length b ≡ 2 * 2 ^ v = ap (λ k. 2 ^ k) e ∙ power_more v in
    ⊎_elim (λ (h : top_bit b ≡ true).
    let z = signed_of-negative b h in
    let p = top_bit-true b h in
    let q = value_of-not_bits b in
    subst (λ x. (neg_ℤ (pos (2 ^ v)) ≤ℤ x) × (x ≤ℤ (pos (2 ^ v) +ℤ negsuc 0))) (sym z)
    (omega (arith, ints), omega (arith, ints)))
    (λ (h : top_bit b ≡ false).
    let z = signed_of-positive b h in
    let p = top_bit-false b h in
    subst (λ x. (neg_ℤ (pos (2 ^ v)) ≤ℤ x) × (x ≤ℤ (pos (2 ^ v) +ℤ negsuc 0))) (sym z)
    (omega (arith, ints), omega (arith, ints)))
    (by_top (top_bit b))

one_more : (t : Bool) (x : Bool) (ys xs : Bits) → length ys ≤ length xs
    → length (cond t (x ∷ ys) []) ≤ length (x ∷ xs)
one_more true x ys xs h = omega arith
one_more false x ys xs h = omega arith

front_shorter : (p : Bool → Bool) (xs : Bits) → length (take_while p xs) ≤ length xs
front_shorter p [] = omega arith
front_shorter p (x ∷ xs) =
    subst (λ ys. length ys ≤ length (x ∷ xs)) (sym (take_while-cons p x xs))
    (one_more (p x) x (take_while p xs) xs (front_shorter p xs))

module _ (beyond : Num → Positive) where
  pub unsigned : (s : Shape) (b : Bits) → let vs : Opened = W.Bits b ∷ [] in
      is_met beyond (row_type R.Unsigned s) vs ≡ true
      → gives beyond (row_type R.Unsigned s) vs (row_of R.Unsigned vs) ≡ true
  unsigned s b h =
      let vs : Opened = W.Bits b ∷ [] in
      let before = variables beyond P.Nothing vs (pos 0) in
      let narrow : pos (length b) ≤ℤ pos 126 = up_to_from before 0 (pos 126)
      (one_from before (at_most first (constant (pos 126))) h) in
      let m : length b ≤ 126 = omega (arith, ints) in
      let nu = variables beyond P.Nothing vs (pos (value_of b)) in
      let one = one_time (pos (length b)) in
      let exponent : pos 1 *ℤ pos (length b) +ℤ pos 0 ≡ pos (length b) = omega (arith, ints) in
      let high = number_times_power nu (pos 1) (pos 0) (negsuc 0) (length b) exponent (omega arith) in
      let low = number_constant nu (pos 0) in
      let one_power = one_time (pos (2 ^ length b)) in
      let below = value_of-lt b in
      gives_where beyond (row_type R.Unsigned s) vs (nat_le (length b) 126) (an_integer (pos (value_of b)))
      (le-leb (length b) 126 m)
      (fresh_gives beyond P.Nothing (at_most first (constant (pos 126)) ∷ []) (constant (pos 0))
      (times_power (pos 1) (pos 0) (negsuc 0)) [] vs
      (pos (value_of b)) (omega (arith, ints)) (omega (arith, ints)) refl
      (small_below (value_of b) (length b) (omega arith) m))

  signed_at : (s : Shape) (b : Bits) (v : ℕ) → length b ≡ suc v → length b ≤ 126 → let vs : Opened = W.Bits b ∷ [] in
      gives beyond (row_type R.Signed s) vs (row_of R.Signed vs) ≡ true
  signed_at s b v e m =
      let vs : Opened = W.Bits b ∷ [] in
      let z : ℤ = signed_of b in
      let nu = variables beyond P.Nothing vs z in
      let one = one_time (pos (length b)) in
      let exponent : pos 1 *ℤ pos (length b) +ℤ negsuc 0 ≡ pos v = omega (arith, ints) in
      let low = number_times_power nu (negsuc 0) (negsuc 0) (pos 0) v exponent (omega arith) in
      let high = number_times_power nu (pos 1) (negsuc 0) (negsuc 0) v exponent (omega arith) in
      let one_power = one_time (pos (2 ^ v)) in
      let less_power = minus_one_time (pos (2 ^ v)) in
      let range = signed_range b v e in
      gives_where beyond (row_type R.Signed s) vs (nat_le 1 (length b) && nat_le (length b) 126) (an_integer z)
      (and_from (nat_le 1 (length b)) (nat_le (length b) 126) (le-leb 1 (length b) (omega arith))
      (le-leb (length b) 126 m))
      (fresh_gives beyond P.Nothing (at_most first (constant (pos 126)) ∷ at_most (constant (pos 1)) first ∷ [])
      (times_power (negsuc 0) (negsuc 0) (pos 0))
      (times_power (pos 1) (negsuc 0) (negsuc 0)) [] vs z (omega (arith, ints)) (omega (arith, ints)) refl
      (small_signed b m))

  pub signed : (s : Shape) (b : Bits) → let vs : Opened = W.Bits b ∷ [] in
      is_met beyond (row_type R.Signed s) vs ≡ true
      → gives beyond (row_type R.Signed s) vs (row_of R.Signed vs) ≡ true
  signed s b h =
      let before = variables beyond P.Nothing (W.Bits b ∷ []) (pos 0) in
      let parts = two_from before (at_most first (constant (pos 126))) (at_most (constant (pos 1)) first) h in
      let narrow : pos (length b) ≤ℤ pos 126 = up_to_from before 0 (pos 126) parts.0 in
      let some : pos 1 ≤ℤ pos (length b) = at_least_from before (pos 1) 0 parts.1 in
      let e : length b ≡ suc (length b - 1) = omega (arith, ints) in
      signed_at s b (length b - 1) e (omega (arith, ints))

  pub length_of_bits : (s : Shape) (b : Bits) → is_width (length b) ≡ true
      → gives beyond (row_type R.Length s) (W.Bits b ∷ []) (row_of R.Length (W.Bits b ∷ [])) ≡ true
  length_of_bits s b width =
      let vs : Opened = W.Bits b ∷ [] in
      let k = leb-true (length b) 128 width in
      integer_gives beyond [] first vs (pos (length b))
      (number_variable (variables beyond P.Nothing vs (pos (length b))) 0) (small_count (length b) (omega arith))

  pub length_of_vector : (s : Shape) (items : List Value) → is_length (length items) ≡ true
      → gives beyond (row_type R.Length s) (W.Vector items ∷ []) (row_of R.Length (W.Vector items ∷ [])) ≡ true
  length_of_vector s items size =
      let vs : Opened = W.Vector items ∷ [] in
      let k = leb-true (length items) 4096 size in
      integer_gives beyond [] first vs (pos (length items))
      (number_variable (variables beyond P.Nothing vs (pos (length items))) 0)
      (small_count (length items) k)

  pub count_leading_zeros : (s : Shape) (b : Bits) → is_width (length b) ≡ true → let vs : Opened = W.Bits b ∷ [] in
      gives beyond (row_type R.CountLeadingZeros s) vs (row_of R.CountLeadingZeros vs) ≡ true
  count_leading_zeros s b width =
      let vs : Opened = W.Bits b ∷ [] in
      let z : ℤ = pos (leading_zeros b) in
      let nu = variables beyond P.Nothing vs z in
      let k = leb-true (length b) 128 width in
      let shorter : leading_zeros b ≤ length (reverse b) = front_shorter not (reverse b) in
      let same = length-reverse b in
      let low = number_constant nu (pos 0) in
      let high : number nu first ≡ pos (length b) = number_variable nu 0 in
      fresh_gives beyond P.Nothing [] (constant (pos 0)) first [] vs z (omega (arith, ints))
      (omega (arith, ints)) refl
      (small_count (leading_zeros b) (omega arith))

  -- ---- one bit, texts and vectors

  pub bool_to_bits : (s : Shape) (b : Bool)
      → gives beyond (row_type R.BoolToBits s) (W.Truth b ∷ []) (row_of R.BoolToBits (W.Truth b ∷ [])) ≡ true
  bool_to_bits s b =
      word_gives beyond P.Nothing [] (constant (pos 1)) (W.Truth b ∷ []) (b ∷ [])
      (number_constant (variables beyond P.Nothing (W.Truth b ∷ []) (pos 1)) (pos 1))
      (omega arith)

  pub concat_str : (s : Shape) (a b : List ℕ) → let vs : Opened = W.String a ∷ W.String b ∷ [] in
      gives beyond (row_type R.ConcatStr s) vs (row_of R.ConcatStr vs) ≡ true
  concat_str s a b = gives_text beyond (under [] O.String) (W.String a ∷ W.String b ∷ []) _ refl

  pub dec_str : (s : Shape) (i : ℤ)
      → gives beyond (row_type R.DecStr s) (W.Integer i ∷ []) (row_of R.DecStr (W.Integer i ∷ [])) ≡ true
  dec_str s i = gives_text beyond (under [] O.String) (W.Integer i ∷ []) _ refl

  pub bits_str : (s : Shape) (b : Bits)
      → gives beyond (row_type R.BitsStr s) (W.Bits b ∷ []) (row_of R.BitsStr (W.Bits b ∷ [])) ≡ true
  bits_str s b = gives_text beyond (under [] O.String) (W.Bits b ∷ []) _ refl

  pub vector_init : (s : Shape) (i : ℤ) (x : Value-F Value) → let vs : Opened = W.Integer i ∷ x ∷ [] in
      is_met beyond (row_type R.VectorInit s) vs ≡ true → has_space beyond (row_type R.VectorInit s) vs ≡ true
      → gives beyond (row_type R.VectorInit s) vs (row_of R.VectorInit vs) ≡ true
  vector_init s (pos n) x h room =
      let vs : Opened = W.Integer (pos n) ∷ x ∷ [] in
      let items : List Value = replicate n (roll-Value x) in
      let before = variables beyond P.Nothing vs (pos 0) in
      let nu = variables beyond P.Nothing vs (pos (length items)) in
      let k = le_from (number before first) (pos 4096) room in
      let e : number before first ≡ pos n = number_variable before 0 in
      let m : n ≤ 4096 = omega (arith, ints) in
      let l : length items ≡ n = length-replicate n (roll-Value x) in
      let f : number nu first ≡ pos n = number_variable nu 0 in
      gives_where beyond (row_type R.VectorInit s) vs (is_length n) (Some (V.Vector items)) (le-leb n 4096 m)
      (gives_value beyond (row_type R.VectorInit s) vs (V.Vector items) (W.Vector items) (opened_vector items)
      (and_from (int_eq (pos (length items)) (number nu first)) (is_length (length items))
      ((Decides-int_eq (pos (length items)) (number nu first)).1 (ap pos l ∙ sym f))
      (le-leb (length items) 4096 (omega arith))))
  vector_init s (negsuc n) x h room =
      let nu = variables beyond P.Nothing (W.Integer (negsuc n) ∷ x ∷ []) (pos 0) in
      let p = at_least_from nu (pos 0) 0 (one_from nu (at_most (constant (pos 0)) first) h) in
      absurd (omega (arith, ints))

  -- ---- comparisons of values of one shape: of bits as wide, and of members of one enum

  pub compared_bits : (how : Comparison) (f : Bool → Bool) (b c : Bits)
      → let vs : Opened = W.Bits b ∷ W.Bits c ∷ [] in
      is_met beyond (compared how S.Bits) vs ≡ true
      → gives beyond (compared how S.Bits) vs
      (option_map (λ t. V.Truth (f t)) (only (nat_eq (length b) (length c)) (eq_bits b c))) ≡ true
  compared_bits how f b c h =
      let vs : Opened = W.Bits b ∷ W.Bits c ∷ [] in
      ap (λ t. gives beyond (alike O.Bool) vs (option_map (λ t. V.Truth (f t)) (only t (eq_bits b c))))
      (eq-eqb (length b) (length c) (alike_from beyond O.Bool b c h))
      ∙ gives_truth beyond (alike O.Bool) vs (f (eq_bits b c)) refl

  pub eq_bits_row : (b c : Bits) → let vs : Opened = W.Bits b ∷ W.Bits c ∷ [] in
      is_met beyond (compared Is.Equal S.Bits) vs ≡ true
      → gives beyond (compared Is.Equal S.Bits) vs (row_of R.Eq vs) ≡ true
  eq_bits_row b c h = compared_bits Is.Equal (λ t. t) b c h

  pub neq_bits_row : (b c : Bits) → let vs : Opened = W.Bits b ∷ W.Bits c ∷ [] in
      is_met beyond (compared Is.NotEqual S.Bits) vs ≡ true
      → gives beyond (compared Is.NotEqual S.Bits) vs (row_of R.Neq vs) ≡ true
  neq_bits_row b c h = compared_bits Is.NotEqual not b c h

  -- any truth is a result of two values of another shape
  pub truth_gives : (vs : Opened) (b : Bool) → gives beyond (under [] O.Bool) vs (Some (V.Truth b)) ≡ true
  truth_gives vs b = gives_truth beyond (under [] O.Bool) vs b refl

  pub eq_bit : (b c : Bool)
      → gives beyond (compared Is.Equal S.Bit) (W.Bit b ∷ W.Bit c ∷ []) (row_of R.Eq (W.Bit b ∷ W.Bit c ∷ [])) ≡ true
  eq_bit b c = truth_gives (W.Bit b ∷ W.Bit c ∷ []) (beq b c)

  pub neq_bit : (b c : Bool)
      → gives beyond (compared Is.NotEqual S.Bit) (W.Bit b ∷ W.Bit c ∷ [])
      (row_of R.Neq (W.Bit b ∷ W.Bit c ∷ [])) ≡ true
  neq_bit b c = truth_gives (W.Bit b ∷ W.Bit c ∷ []) (not (beq b c))

  pub eq_bool : (b c : Bool)
      → gives beyond (compared Is.Equal S.Bool) (W.Truth b ∷ W.Truth c ∷ [])
      (row_of R.Eq (W.Truth b ∷ W.Truth c ∷ [])) ≡ true
  eq_bool b c = truth_gives (W.Truth b ∷ W.Truth c ∷ []) (beq b c)

  pub neq_bool : (b c : Bool)
      → gives beyond (compared Is.NotEqual S.Bool) (W.Truth b ∷ W.Truth c ∷ [])
      (row_of R.Neq (W.Truth b ∷ W.Truth c ∷ [])) ≡ true
  neq_bool b c = truth_gives (W.Truth b ∷ W.Truth c ∷ []) (not (beq b c))

  pub eq_string : (a b : List ℕ)
      → gives beyond (compared Is.Equal S.String) (W.String a ∷ W.String b ∷ [])
      (row_of R.Eq (W.String a ∷ W.String b ∷ [])) ≡ true
  eq_string a b = truth_gives (W.String a ∷ W.String b ∷ []) (bytes_eq a b)

  pub neq_string : (a b : List ℕ)
      → gives beyond (compared Is.NotEqual S.String) (W.String a ∷ W.String b ∷ [])
      (row_of R.Neq (W.String a ∷ W.String b ∷ [])) ≡ true
  neq_string a b = truth_gives (W.String a ∷ W.String b ∷ []) (not (bytes_eq a b))

  pub eq_unit : gives beyond (compared Is.Equal S.Unit) (W.Unit ∷ W.Unit ∷ [])
      (row_of R.Eq (W.Unit ∷ W.Unit ∷ [])) ≡ true
  eq_unit = truth_gives (W.Unit ∷ W.Unit ∷ []) true

  pub neq_unit : gives beyond (compared Is.NotEqual S.Unit) (W.Unit ∷ W.Unit ∷ [])
      (row_of R.Neq (W.Unit ∷ W.Unit ∷ [])) ≡ true
  neq_unit = truth_gives (W.Unit ∷ W.Unit ∷ []) false

  one_enum : (f : Bool → Bool) (i k l : ℕ) → gives beyond (under [] O.Bool) (W.Member i k ∷ W.Member i l ∷ [])
      (option_map (λ t. V.Truth (f t)) (only (nat_eq i i) (nat_eq k l))) ≡ true
  one_enum f i k l =
      let vs : Opened = W.Member i k ∷ W.Member i l ∷ [] in
      ap (λ t. gives beyond (under [] O.Bool) vs (option_map (λ t. V.Truth (f t)) (only t (nat_eq k l))))
      (eq-eqb i i refl) ∙ truth_gives vs (f (nat_eq k l))

  pub eq_member : (i k l : ℕ) (ss : List Shape) → let vs : Opened = W.Member i k ∷ W.Member i l ∷ [] in
      gives beyond (compared Is.Equal (S.Named i ss)) vs (row_of R.Eq vs) ≡ true
  eq_member i k l ss = one_enum (λ t. t) i k l

  pub neq_member : (i k l : ℕ) (ss : List Shape) → let vs : Opened = W.Member i k ∷ W.Member i l ∷ [] in
      gives beyond (compared Is.NotEqual (S.Named i ss)) vs (row_of R.Neq vs) ≡ true
  neq_member i k l ss = one_enum not i k l
