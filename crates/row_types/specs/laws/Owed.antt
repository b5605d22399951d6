-- Where a row has a value, what a call owes is true of the numbers of its arguments: row by row, for the rows that owe
-- something.
use Rattle.std.proofs.Common.{◌≡◌, ℕ, ◌*◌, Bool, true, false, not, [], ◌∷◌, length}
use Rattle.std.proofs.Common.{ap, sym, ◌∙◌, refl, subst, arith}
use Rattle.std.specs.Prelude.{ℤ, pos, negsuc, ◌+ℤ◌, ◌-ℤ◌, ◌*ℤ◌, ◌≤ℤ◌, nat_le, nat_eq, nat_lt, int_le, cond, ◌&&◌}
use Rattle.std.specs.Prelude.{Option, Some, None, is_some, option_map}
use Rattle.std.specs.List.{list_all}
use Rattle.std.specs.Ordering.{int_eq}
use Rattle.std.proofs.lemmas.Int.{ints}
use Rattle.std.proofs.lemmas.Bool.{and_parts, and_from, leb-true, ltb-true, eqb-true, false≢true}
use Rattle.std.proofs.lemmas.Bool.Decides.{Decides-int_eq}
use Rattle.sail_base.specs.Bits.{value_of, signed_of, eq_bits, mul_wide_unsigned, mul_wide_signed, mul_wide_mixed}
use Rattle.sail_base.specs.laws.BitLaws.{length-bits_of}
use Rattle.sail_base.specs.laws.WordParts.{length-bits_of_int}
use Rattle.sail_types.specs.Limits.{is_small, is_width}
use Rattle.sail_types.specs.Numbers.{Assignment, Positive, number, true_in}
use Rattle.sail_types.specs.Sums.{and_then, constant, variable}
use Rattle.sail_types.specs.declared.numbers.Num.{Num}
use Rattle.sail_types.specs.declared.numbers.Con.{Con}
use Rattle.sail_types.specs.declared.numbers.Con.TheVariants as C
use Rattle.sail_types.specs.declared.numbers.Comparison.{Comparison}
use Rattle.sail_types.specs.declared.numbers.Comparison.TheVariants as Is
use Rattle.sail_types.specs.declared.rows.Row.TheVariants as R
use Rattle.sail_types.specs.declared.shapes.Shape.{Shape}
use Rattle.sail_types.specs.declared.shapes.Shape.TheOpen as S
use Rattle.sail_types.specs.declared.values.Value.{Value, Value-F}
use Rattle.sail_types.specs.declared.values.Value.TheOpen as W
use Rattle.sail_types.specs.declared.values.Value.TheVariants as V
use Rattle.sail_types.proofs.Substituted.{number_constant}
use Rattle.builtins.specs.RowValues.{Bits, Opened, only, where_, an_integer, a_word, row_of}
use Rattle.row_types.specs.declared.kinds.Outcome.{Outcome}
use Rattle.row_types.specs.declared.kinds.Product.{Product}
use Rattle.row_types.specs.declared.kinds.Product.TheVariants as P
use Rattle.row_types.specs.Formulas.{least, most, first, second, product, plus_times, at_most, equal, within}
use Rattle.row_types.specs.RowTypes.{bounded, alike, wide, bits_of_first, compared, row_type}
use Rattle.row_types.specs.Calls.{variables, is_met}
use Rattle.row_types.specs.laws.Formulas.{number_variable, number_plus_times, true_compare, at_most_to, two_hold}
use Rattle.row_types.specs.laws.Formulas.{compare_variables, le_from}
use Rattle.row_types.specs.laws.Results.{small_from}
use Rattle.row_types.specs.laws.IntegerRows.{one_each, one_less}

-- ---- what is there

some_only : {A : Type 0} (b : Bool) (x : A) → is_some (only b x) ≡ true → b ≡ true
some_only true x h = refl
some_only false x h = absurd (false≢true h)

some_where : (b : Bool) (o : Option Value) → is_some (where_ b o) ≡ true → (b ≡ true) × (is_some o ≡ true)
some_where true o h = (refl, h)
some_where false o h = absurd (false≢true h)

some_mapped : {A : Type 0} (f : A → Value) (o : Option A) → is_some (option_map f o) ≡ true → is_some o ≡ true
some_mapped f (Some x) h = refl
some_mapped f None h = absurd (false≢true h)

-- ---- constraints that hold

one_holds : (nu : Assignment) (c : Con) → true_in nu c ≡ true → list_all (true_in nu) (c ∷ []) ≡ true
one_holds nu c h = and_from (true_in nu c) true h refl

at_least_holds : (nu : Assignment) (low : ℤ) (i : ℕ) → low ≤ℤ nu.int i
    → true_in nu (at_most (constant low) (variable i)) ≡ true
at_least_holds nu low i h =
    let p = number_constant nu low in
    let q = number_variable nu i in
    at_most_to nu (constant low) (variable i) (omega (arith, ints))

up_to_holds : (nu : Assignment) (i : ℕ) (high : ℤ) → nu.int i ≤ℤ high
    → true_in nu (at_most (variable i) (constant high)) ≡ true
up_to_holds nu i high h =
    let p = number_constant nu high in
    let q = number_variable nu i in
    at_most_to nu (variable i) (constant high) (omega (arith, ints))

equal_holds : (nu : Assignment) (t u : Num) → number nu t ≡ number nu u → true_in nu (equal t u) ≡ true
equal_holds nu t u h = true_compare nu Is.Equal t u ∙ (Decides-int_eq (number nu t) (number nu u)).1 h

within_holds : (nu : Assignment) (low : ℤ) (t : Num) (high : ℤ) → low ≤ℤ number nu t → number nu t ≤ℤ high
    → list_all (true_in nu) (within low t high) ≡ true
within_holds nu low t high below above =
    two_hold nu (at_most (constant low) t) (at_most t (constant high))
    (at_most_to nu (constant low) t (subst (λ x. x ≤ℤ number nu t) (sym (number_constant nu low)) below))
    (at_most_to nu t (constant high) (subst (λ x. number nu t ≤ℤ x) (sym (number_constant nu high)) above))

module _ (beyond : Num → Positive) where
  bounded_owed : (p : Product) (t : Num) (vs : Opened) (z : ℤ) → number (variables beyond p vs (pos 0)) t ≡ z
      → is_some (an_integer z) ≡ true
      → is_met beyond (bounded p t) vs ≡ true
  bounded_owed p t vs z e h =
      let nu = variables beyond p vs (pos 0) in
      let range = small_from z (some_only (is_small z) (V.Integer z) h) in
      within_holds nu least t most (subst (λ x. least ≤ℤ x) (sym e) range.0) (subst (λ x. x ≤ℤ most) (sym e) range.1)

  pub add_int : (s : Shape) (i j : ℤ) → let vs : Opened = W.Integer i ∷ W.Integer j ∷ [] in
      is_some (row_of R.AddInt vs) ≡ true → is_met beyond (row_type R.AddInt s) vs ≡ true
  add_int s i j h =
      let vs : Opened = W.Integer i ∷ W.Integer j ∷ [] in
      bounded_owed P.Nothing (plus_times 0 (pos 1) 1 (pos 0)) vs (i +ℤ j)
      (number_plus_times (variables beyond P.Nothing vs (pos 0)) 0 (pos 1) 1 (pos 0) ∙ one_each i j) h

  pub sub_int : (s : Shape) (i j : ℤ) → let vs : Opened = W.Integer i ∷ W.Integer j ∷ [] in
      is_some (row_of R.SubInt vs) ≡ true → is_met beyond (row_type R.SubInt s) vs ≡ true
  sub_int s i j h =
      let vs : Opened = W.Integer i ∷ W.Integer j ∷ [] in
      bounded_owed P.Nothing (plus_times 0 (negsuc 0) 1 (pos 0)) vs (i -ℤ j)
      (number_plus_times (variables beyond P.Nothing vs (pos 0)) 0 (negsuc 0) 1 (pos 0) ∙ one_less i j) h

  pub mult_int : (s : Shape) (i j : ℤ) → let vs : Opened = W.Integer i ∷ W.Integer j ∷ [] in
      is_some (row_of R.MultInt vs) ≡ true → is_met beyond (row_type R.MultInt s) vs ≡ true
  mult_int s i j h =
      let vs : Opened = W.Integer i ∷ W.Integer j ∷ [] in
      bounded_owed P.OfArguments product vs (i *ℤ j) (number_variable (variables beyond P.OfArguments vs (pos 0)) 4) h

  small_exponent : (b : Bool) (z : ℤ) → is_some (and_then (cond b (Some z) None) an_integer) ≡ true → b ≡ true
  small_exponent true z h = refl
  small_exponent false z h = absurd (false≢true h)

  pub pow2 : (s : Shape) (i : ℤ) → is_some (row_of R.Pow2 (W.Integer i ∷ [])) ≡ true
      → is_met beyond (row_type R.Pow2 s) (W.Integer i ∷ []) ≡ true
  pow2 s (pos n) h =
      let nu = variables beyond P.Nothing (W.Integer (pos n) ∷ []) (pos 0) in
      let small = ltb-true n 127 (small_exponent (nat_lt n 127) _ h) in
      let e : number nu first ≡ pos n = number_variable nu 0 in
      within_holds nu (pos 0) first (pos 126) (omega (arith, ints)) (omega (arith, ints))
  pow2 s (negsuc n) h = absurd (false≢true h)

  -- a divisor is at least 1, or not 0
  pub ediv_int : (s : Shape) (i j : ℤ) → let vs : Opened = W.Integer i ∷ W.Integer j ∷ [] in
      is_some (row_of R.EdivInt vs) ≡ true → is_met beyond (row_type R.EdivInt s) vs ≡ true
  ediv_int s i j h =
      let nu = variables beyond P.OfResult (W.Integer i ∷ W.Integer j ∷ []) (pos 0) in
      one_holds nu (at_most (constant (pos 1)) second)
      (at_least_holds nu (pos 1) 1 (le_from (pos 1) j (some_where (int_le (pos 1) j) _ h).0))

  pub emod_int : (s : Shape) (i j : ℤ) → let vs : Opened = W.Integer i ∷ W.Integer j ∷ [] in
      is_some (row_of R.EmodInt vs) ≡ true → is_met beyond (row_type R.EmodInt s) vs ≡ true
  emod_int s i j h =
      let nu = variables beyond P.Nothing (W.Integer i ∷ W.Integer j ∷ []) (pos 0) in
      one_holds nu (at_most (constant (pos 1)) second)
      (at_least_holds nu (pos 1) 1 (le_from (pos 1) j (some_where (int_le (pos 1) j) _ h).0))

  nonzero_owed : (s : Shape) (i j : ℤ) → not (int_eq j (pos 0)) ≡ true
      → is_met beyond (row_type R.TdivInt s) (W.Integer i ∷ W.Integer j ∷ []) ≡ true
  nonzero_owed s i j h =
      let nu = variables beyond P.Nothing (W.Integer i ∷ W.Integer j ∷ []) (pos 0) in
      one_holds nu (C.Compare Is.NotEqual second (constant (pos 0)))
      (true_compare nu Is.NotEqual second (constant (pos 0))
      ∙ (λ k. not (int_eq (number_variable nu 1 k) (number_constant nu (pos 0) k))) ∙ h)

  pub tdiv_int : (s : Shape) (i j : ℤ) → let vs : Opened = W.Integer i ∷ W.Integer j ∷ [] in
      is_some (row_of R.TdivInt vs) ≡ true → is_met beyond (row_type R.TdivInt s) vs ≡ true
  tdiv_int s i j h = nonzero_owed s i j (some_where (not (int_eq j (pos 0))) _ h).0

  pub tmod_int : (s : Shape) (i j : ℤ) → let vs : Opened = W.Integer i ∷ W.Integer j ∷ [] in
      is_some (row_of R.TmodInt vs) ≡ true → is_met beyond (row_type R.TmodInt s) vs ≡ true
  tmod_int s i j h = nonzero_owed s i j (some_where (not (int_eq j (pos 0))) _ h).0

  -- ---- words that are as wide

  pub alike_owed : (outcome : Outcome) (b c : Bits) (o : Option Value)
      → is_some (where_ (nat_eq (length b) (length c)) o) ≡ true
      → is_met beyond (alike outcome) (W.Bits b ∷ W.Bits c ∷ []) ≡ true
  alike_owed outcome b c o h =
      let nu = variables beyond P.Nothing (W.Bits b ∷ W.Bits c ∷ []) (pos 0) in
      let same = eqb-true (length b) (length c) (some_where (nat_eq (length b) (length c)) o h).0 in
      one_holds nu (equal first second)
      (equal_holds nu first second (number_variable nu 0 ∙ ap pos same ∙ sym (number_variable nu 1)))

  pub compared_owed : (how : Comparison) (f : Bool → Bool) (b c : Bits)
      → is_some (option_map (λ t. V.Truth (f t)) (only (nat_eq (length b) (length c)) (eq_bits b c))) ≡ true
      → is_met beyond (compared how S.Bits) (W.Bits b ∷ W.Bits c ∷ []) ≡ true
  compared_owed how f b c h =
      let nu = variables beyond P.Nothing (W.Bits b ∷ W.Bits c ∷ []) (pos 0) in
      let there = some_mapped (λ t. V.Truth (f t)) (only (nat_eq (length b) (length c)) (eq_bits b c)) h in
      let same = eqb-true (length b) (length c) (some_only (nat_eq (length b) (length c)) (eq_bits b c) there) in
      one_holds nu (equal first second)
      (equal_holds nu first second (number_variable nu 0 ∙ ap pos same ∙ sym (number_variable nu 1)))

  wide_owed : (b c r : Bits) → length r ≡ 2 * length b
      → is_some (where_ (nat_eq (length b) (length c)) (a_word r)) ≡ true
      → is_met beyond wide (W.Bits b ∷ W.Bits c ∷ []) ≡ true
  wide_owed b c r l h =
      let nu = variables beyond P.Nothing (W.Bits b ∷ W.Bits c ∷ []) (pos 0) in
      let parts = some_where (nat_eq (length b) (length c)) (a_word r) h in
      let same = eqb-true (length b) (length c) parts.0 in
      let room = leb-true (length r) 128 (some_only (is_width (length r)) (V.Bits r) parts.1) in
      two_hold nu (equal first second) (at_most first (constant (pos 64)))
      (equal_holds nu first second (number_variable nu 0 ∙ ap pos same ∙ sym (number_variable nu 1)))
      (up_to_holds nu 0 (pos 64) (omega (arith, ints)))

  pub mul_wide_uu : (s : Shape) (b c : Bits) → let vs : Opened = W.Bits b ∷ W.Bits c ∷ [] in
      is_some (row_of R.MulWideUu vs) ≡ true → is_met beyond (row_type R.MulWideUu s) vs ≡ true
  mul_wide_uu s b c h = wide_owed b c (mul_wide_unsigned b c)
      (length-bits_of (2 * length b) (value_of b * value_of c)) h

  pub mul_wide_ss : (s : Shape) (b c : Bits) → let vs : Opened = W.Bits b ∷ W.Bits c ∷ [] in
      is_some (row_of R.MulWideSs vs) ≡ true → is_met beyond (row_type R.MulWideSs s) vs ≡ true
  mul_wide_ss s b c h = wide_owed b c (mul_wide_signed b c)
      (length-bits_of_int (2 * length b) (signed_of b *ℤ signed_of c)) h

  pub mul_wide_su : (s : Shape) (b c : Bits) → let vs : Opened = W.Bits b ∷ W.Bits c ∷ [] in
      is_some (row_of R.MulWideSu vs) ≡ true → is_met beyond (row_type R.MulWideSu s) vs ≡ true
  mul_wide_su s b c h = wide_owed b c (mul_wide_mixed b c)
      (length-bits_of_int (2 * length b) (signed_of b *ℤ pos (value_of c))) h

  -- ---- amounts, widths and lengths that are not negative

  pub shiftl : (s : Shape) (b : Bits) (i : ℤ) → let vs : Opened = W.Bits b ∷ W.Integer i ∷ [] in
      is_some (row_of R.Shiftl vs) ≡ true → is_met beyond (row_type R.Shiftl s) vs ≡ true
  shiftl s b (pos n) h =
      let nu = variables beyond P.Nothing (W.Bits b ∷ W.Integer (pos n) ∷ []) (pos 0) in
      one_holds nu (at_most (constant (pos 0)) second) (at_least_holds nu (pos 0) 1 (omega (arith, ints)))
  shiftl s b (negsuc n) h = absurd (false≢true h)

  pub shiftr : (s : Shape) (b : Bits) (i : ℤ) → let vs : Opened = W.Bits b ∷ W.Integer i ∷ [] in
      is_some (row_of R.Shiftr vs) ≡ true → is_met beyond (row_type R.Shiftr s) vs ≡ true
  shiftr s b (pos n) h =
      let nu = variables beyond P.Nothing (W.Bits b ∷ W.Integer (pos n) ∷ []) (pos 0) in
      one_holds nu (at_most (constant (pos 0)) second) (at_least_holds nu (pos 0) 1 (omega (arith, ints)))
  shiftr s b (negsuc n) h = absurd (false≢true h)

  pub arith_shiftr : (s : Shape) (b : Bits) (i : ℤ) → let vs : Opened = W.Bits b ∷ W.Integer i ∷ [] in
      is_some (row_of R.ArithShiftr vs) ≡ true → is_met beyond (row_type R.ArithShiftr s) vs ≡ true
  arith_shiftr s b (pos n) h =
      let nu = variables beyond P.Nothing (W.Bits b ∷ W.Integer (pos n) ∷ []) (pos 0) in
      one_holds nu (at_most (constant (pos 0)) second) (at_least_holds nu (pos 0) 1 (omega (arith, ints)))
  arith_shiftr s b (negsuc n) h = absurd (false≢true h)

  pub replicate_bits : (s : Shape) (b : Bits) (i : ℤ) → let vs : Opened = W.Bits b ∷ W.Integer i ∷ [] in
      is_some (row_of R.ReplicateBits vs) ≡ true → is_met beyond (row_type R.ReplicateBits s) vs ≡ true
  replicate_bits s b (pos n) h =
      let nu = variables beyond P.OfArguments (W.Bits b ∷ W.Integer (pos n) ∷ []) (pos 0) in
      one_holds nu (at_most (constant (pos 0)) second) (at_least_holds nu (pos 0) 1 (omega (arith, ints)))
  replicate_bits s b (negsuc n) h = absurd (false≢true h)

  pub truncate : (s : Shape) (b : Bits) (i : ℤ) → let vs : Opened = W.Bits b ∷ W.Integer i ∷ [] in
      is_some (row_of R.Truncate vs) ≡ true → is_met beyond (row_type R.Truncate s) vs ≡ true
  truncate s b (pos n) h =
      let nu = variables beyond P.Nothing (W.Bits b ∷ W.Integer (pos n) ∷ []) (pos 0) in
      let below = leb-true n (length b) (some_where (nat_le n (length b)) _ h).0 in
      two_hold nu (at_most (constant (pos 0)) second) (at_most second first)
      (at_least_holds nu (pos 0) 1 (omega (arith, ints)))
      (compare_variables nu 1 0 (omega (arith, ints)))
  truncate s b (negsuc n) h = absurd (false≢true h)

  pub zero_extend : (s : Shape) (i : ℤ) (b : Bits) → let vs : Opened = W.Integer i ∷ W.Bits b ∷ [] in
      is_some (row_of R.ZeroExtend vs) ≡ true → is_met beyond (row_type R.ZeroExtend s) vs ≡ true
  zero_extend s (pos n) b h =
      let nu = variables beyond P.Nothing (W.Integer (pos n) ∷ W.Bits b ∷ []) (pos 0) in
      let above = leb-true (length b) n (some_where (nat_le (length b) n) _ h).0 in
      one_holds nu (at_most second first) (compare_variables nu 1 0 (omega (arith, ints)))
  zero_extend s (negsuc n) b h = absurd (false≢true h)

  pub sign_extend : (s : Shape) (i : ℤ) (b : Bits) → let vs : Opened = W.Integer i ∷ W.Bits b ∷ [] in
      is_some (row_of R.SignExtend vs) ≡ true → is_met beyond (row_type R.SignExtend s) vs ≡ true
  sign_extend s (pos n) b h =
      let nu = variables beyond P.Nothing (W.Integer (pos n) ∷ W.Bits b ∷ []) (pos 0) in
      let above = leb-true (length b) n (some_where (nat_le (length b) n) _ h).0 in
      one_holds nu (at_most second first) (compare_variables nu 1 0 (omega (arith, ints)))
  sign_extend s (negsuc n) b h = absurd (false≢true h)

  count_owed : (vs : Opened) (n : ℕ) → (variables beyond P.Nothing vs (pos 0)).int 0 ≡ pos n
      → is_met beyond bits_of_first vs ≡ true
  count_owed vs n e =
      let nu = variables beyond P.Nothing vs (pos 0) in
      one_holds nu (at_most (constant (pos 0)) first) (at_least_holds nu (pos 0) 0 (omega (arith, ints)))

  pub zeros : (s : Shape) (i : ℤ) → is_some (row_of R.Zeros (W.Integer i ∷ [])) ≡ true
      → is_met beyond (row_type R.Zeros s) (W.Integer i ∷ []) ≡ true
  zeros s (pos n) h = count_owed (W.Integer (pos n) ∷ []) n refl
  zeros s (negsuc n) h = absurd (false≢true h)

  pub ones : (s : Shape) (i : ℤ) → is_some (row_of R.Ones (W.Integer i ∷ [])) ≡ true
      → is_met beyond (row_type R.Ones s) (W.Integer i ∷ []) ≡ true
  ones s (pos n) h = count_owed (W.Integer (pos n) ∷ []) n refl
  ones s (negsuc n) h = absurd (false≢true h)

  pub to_bits : (s : Shape) (i j : ℤ) → let vs : Opened = W.Integer i ∷ W.Integer j ∷ [] in
      is_some (row_of R.ToBits vs) ≡ true → is_met beyond (row_type R.ToBits s) vs ≡ true
  to_bits s (pos n) j h = count_owed (W.Integer (pos n) ∷ W.Integer j ∷ []) n refl
  to_bits s (negsuc n) j h = absurd (false≢true h)

  pub vector_init : (s : Shape) (i : ℤ) (x : Value-F Value) → let vs : Opened = W.Integer i ∷ x ∷ [] in
      is_some (row_of R.VectorInit vs) ≡ true → is_met beyond (row_type R.VectorInit s) vs ≡ true
  vector_init s (pos n) x h = count_owed (W.Integer (pos n) ∷ x ∷ []) n refl
  vector_init s (negsuc n) x h = absurd (false≢true h)

  -- ---- integers of words

  pub unsigned : (s : Shape) (b : Bits) → is_some (row_of R.Unsigned (W.Bits b ∷ [])) ≡ true
      → is_met beyond (row_type R.Unsigned s) (W.Bits b ∷ []) ≡ true
  unsigned s b h =
      let nu = variables beyond P.Nothing (W.Bits b ∷ []) (pos 0) in
      let narrow = leb-true (length b) 126 (some_where (nat_le (length b) 126) _ h).0 in
      one_holds nu (at_most first (constant (pos 126))) (up_to_holds nu 0 (pos 126) (omega (arith, ints)))

  pub signed : (s : Shape) (b : Bits) → is_some (row_of R.Signed (W.Bits b ∷ [])) ≡ true
      → is_met beyond (row_type R.Signed s) (W.Bits b ∷ []) ≡ true
  signed s b h =
      let nu = variables beyond P.Nothing (W.Bits b ∷ []) (pos 0) in
      let both = and_parts (nat_le 1 (length b)) (nat_le (length b) 126)
      (some_where (nat_le 1 (length b) && nat_le (length b) 126) _ h).0 in
      let some = leb-true 1 (length b) both.0 in
      let narrow = leb-true (length b) 126 both.1 in
      two_hold nu (at_most first (constant (pos 126))) (at_most (constant (pos 1)) first)
      (up_to_holds nu 0 (pos 126) (omega (arith, ints)))
      (at_least_holds nu (pos 1) 0 (omega (arith, ints)))
