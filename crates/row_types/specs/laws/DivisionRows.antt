-- The rows of integers that have a condition of their own, and those that compare: where what a call owes is true, there
-- is a value, and it is what the table says.
use Rattle.std.proofs.Common.{◌≡◌, ℕ, zero, suc, ◌^◌, ◌≤◌, Bool, true, false, not, [], ◌∷◌, ap, sym, ◌∙◌, refl}
use Rattle.std.proofs.Common.{subst, arith, pow_mono}
use Rattle.std.specs.Prelude.{ℤ, pos, negsuc, ◌+ℤ◌, ◌*ℤ◌, ◌≤ℤ◌, nat_abs, int_le, int_div, int_rem, cond, Some, None}
use Rattle.std.specs.Int.{int_div_euclid, int_rem_euclid}
use Rattle.std.specs.Bool.{beq}
use Rattle.std.specs.Ordering.{int_eq}
use Rattle.std.proofs.lemmas.Int.{ints}
use Rattle.std.proofs.lemmas.Bool.{and_from, le-leb, lt-ltb}
use Rattle.sail_types.specs.Limits.{largest, is_small}
use Rattle.sail_types.specs.Numbers.{Assignment, Positive, number, true_in, form_true, compares}
use Rattle.sail_types.specs.Sums.{and_then, constant}
use Rattle.sail_types.specs.declared.numbers.Num.{Num}
use Rattle.sail_types.specs.declared.numbers.Comparison.{Comparison}
use Rattle.sail_types.specs.declared.numbers.Comparison.TheVariants as Is
use Rattle.sail_types.specs.declared.numbers.Con.{Con, fold-roll-Con}
use Rattle.sail_types.specs.declared.numbers.Con.TheOpen as F
use Rattle.sail_types.specs.declared.numbers.Con.TheVariants as C
use Rattle.sail_types.specs.declared.rows.Row.TheVariants as R
use Rattle.sail_types.specs.declared.shapes.Shape.{Shape}
use Rattle.sail_types.specs.declared.shapes.Shape.TheOpen as S
use Rattle.sail_types.specs.declared.values.Value.TheOpen as W
use Rattle.sail_types.proofs.Substituted.{number_constant}
use Rattle.sail_types.proofs.Integers.{one_time}
use Rattle.builtins.specs.RowValues.{Opened, an_integer, a_truth, row_of}
use Rattle.row_types.specs.declared.kinds.Outcome.TheVariants as O
use Rattle.row_types.specs.declared.kinds.Product.TheVariants as P
use Rattle.row_types.specs.Formulas.{first, second, product, times, plus_times, times_power, at_most, within}
use Rattle.row_types.specs.RowTypes.{under, compared, row_type}
use Rattle.row_types.specs.Calls.{variables, is_met, gives}
use Rattle.row_types.specs.laws.Formulas.{number_variable, number_times, number_plus_times, number_times_power}
use Rattle.row_types.specs.laws.Formulas.{true_compare, at_most_to, two_hold, compare_variables, within_from}
use Rattle.row_types.specs.laws.Formulas.{one_from, at_least_from, le_to}
use Rattle.row_types.specs.laws.Results.{gives_truth, gives_where}
use Rattle.row_types.specs.laws.IntegerRows.{shrunk, quotient_shrinks, rest_shrinks, floor_shrinks, floor_below}
use Rattle.row_types.specs.laws.IntegerRows.{floor_above, floor_rest_low, floor_rest_high, integer_gives}
use Rattle.row_types.specs.laws.IntegerRows.{fresh_gives, any_gives}

-- ---- integers

above_is : (t u i m : ℤ) (b : ℕ) → t ≡ i → u ≡ (pos 1 *ℤ m +ℤ pos 1 *ℤ pos (suc b)) +ℤ negsuc 0 → i ≤ℤ (m +ℤ pos b)
    → t ≤ℤ u
above_is t u i m b e f h =
    let p = one_time m in
    let q = one_time (pos (suc b)) in
    omega (arith, ints)

rest_size : (i : ℤ) (b : ℕ) → nat_abs (int_rem_euclid i (pos (suc b))) ≤ suc b
rest_size (pos a) b = omega arith
rest_size (negsuc a) b = omega arith

plain_power : (k : ℕ) → pos 1 *ℤ pos (2 ^ k) +ℤ pos 0 ≡ pos (2 ^ k)
plain_power k = let p = one_time (pos (2 ^ k)) in omega (arith, ints)

plain_exponent : (k : ℕ) → pos 1 *ℤ pos k +ℤ pos 0 ≡ pos k
plain_exponent k = let p = one_time (pos k) in omega (arith, ints)

small_power_of : (k : ℕ) → k ≤ 126 → is_small (pos (2 ^ k)) ≡ true
unfolding largest
small_power_of k h = le-leb (2 ^ k) (2 ^ 126) (pow_mono h)

beq_same : (a b : Bool) → b ≡ a → beq a b ≡ true
beq_same true b e = subst (λ c. beq true c ≡ true) (sym e) refl
beq_same false b e = subst (λ c. beq false c ≡ true) (sym e) refl

-- ---- constraints

true_holds : (nu : Assignment) (i : ℕ) → true_in nu (C.Holds i) ≡ nu.bool i
true_holds nu i = ap (true_in nu) (sym (C.rolls-Holds i)) ∙ fold-roll-Con Bool (form_true nu) (F.Holds i)

true_not : (nu : Assignment) (c : Con) → true_in nu (C.Not c) ≡ not (true_in nu c)
true_not nu c = ap (true_in nu) (sym (C.rolls-Not c)) ∙ fold-roll-Con Bool (form_true nu) (F.Not c)

module _ (beyond : Num → Positive) where
  -- ---- divisions

  positive_from : (s : Shape) (i j : ℤ) → is_met beyond (row_type R.EmodInt s) (W.Integer i ∷ W.Integer j ∷ []) ≡ true
      → pos 1 ≤ℤ j
  positive_from s i j h =
      let nu = variables beyond P.Nothing (W.Integer i ∷ W.Integer j ∷ []) (pos 0) in
      at_least_from nu (pos 1) 1 (one_from nu (at_most (constant (pos 1)) second) h)

  quotient_from : (s : Shape) (i j : ℤ) → is_met beyond (row_type R.EdivInt s) (W.Integer i ∷ W.Integer j ∷ []) ≡ true
      → pos 1 ≤ℤ j
  quotient_from s i j h =
      let nu = variables beyond P.OfResult (W.Integer i ∷ W.Integer j ∷ []) (pos 0) in
      at_least_from nu (pos 1) 1 (one_from nu (at_most (constant (pos 1)) second) h)

  quotient_by : (s : Shape) (i : ℤ) (b : ℕ) → is_small i ≡ true
      → let vs : Opened = W.Integer i ∷ W.Integer (pos (suc b)) ∷ [] in
      gives beyond (row_type R.EdivInt s) vs (row_of R.EdivInt vs) ≡ true
  quotient_by s i b small =
      let vs : Opened = W.Integer i ∷ W.Integer (pos (suc b)) ∷ [] in
      let z : ℤ = int_div_euclid i (pos (suc b)) in
      let nu = variables beyond P.OfResult vs z in
      let end = plus_times 4 (pos 1) 1 (negsuc 0) in
      let above : true_in nu (at_most first end) ≡ true = at_most_to nu first end
      (above_is (number nu first) (number nu end) i (pos (suc b) *ℤ z) b
      (number_variable nu 0) (number_plus_times nu 4 (pos 1) 1 (negsuc 0)) (floor_above i b)) in
      gives_where beyond (row_type R.EdivInt s) vs (int_le (pos 1) (pos (suc b))) (an_integer z)
      (le_to (pos 1) (pos (suc b)) (omega (arith, ints)))
      (any_gives beyond P.OfResult (at_most (constant (pos 1)) second ∷ [])
      (at_most product first ∷ at_most first end ∷ []) vs z
      (two_hold nu (at_most product first) (at_most first end) (compare_variables nu 4 0 (floor_below i b)) above)
      (shrunk z i (floor_shrinks i (suc b)) small))

  pub ediv_int : (s : Shape) (i j : ℤ) → is_small i ≡ true → let vs : Opened = W.Integer i ∷ W.Integer j ∷ [] in
      is_met beyond (row_type R.EdivInt s) vs ≡ true
      → gives beyond (row_type R.EdivInt s) vs (row_of R.EdivInt vs) ≡ true
  ediv_int s i (pos zero) small h = let p = quotient_from s i (pos zero) h in absurd (omega (arith, ints))
  ediv_int s i (pos (suc b)) small h = quotient_by s i b small
  ediv_int s i (negsuc b) small h = let p = quotient_from s i (negsuc b) h in absurd (omega (arith, ints))

  rest_by : (s : Shape) (i : ℤ) (b : ℕ) → is_small (pos (suc b)) ≡ true
      → let vs : Opened = W.Integer i ∷ W.Integer (pos (suc b)) ∷ [] in
      gives beyond (row_type R.EmodInt s) vs (row_of R.EmodInt vs) ≡ true
  rest_by s i b small =
      let vs : Opened = W.Integer i ∷ W.Integer (pos (suc b)) ∷ [] in
      let z : ℤ = int_rem_euclid i (pos (suc b)) in
      let nu = variables beyond P.Nothing vs z in
      let zero_is = number_constant nu (pos 0) in
      let end_is = number_times nu (pos 1) 1 (negsuc 0) in
      let one_is = one_time (pos (suc b)) in
      let low = floor_rest_low i b in
      let high = floor_rest_high i b in
      gives_where beyond (row_type R.EmodInt s) vs (int_le (pos 1) (pos (suc b))) (an_integer z)
      (le_to (pos 1) (pos (suc b)) (omega (arith, ints)))
      (fresh_gives beyond P.Nothing (at_most (constant (pos 1)) second ∷ []) (constant (pos 0))
      (times (pos 1) 1 (negsuc 0)) [] vs z (omega (arith, ints))
      (omega (arith, ints)) refl (shrunk z (pos (suc b)) (rest_size i b) small))

  pub emod_int : (s : Shape) (i j : ℤ) → is_small j ≡ true → let vs : Opened = W.Integer i ∷ W.Integer j ∷ [] in
      is_met beyond (row_type R.EmodInt s) vs ≡ true
      → gives beyond (row_type R.EmodInt s) vs (row_of R.EmodInt vs) ≡ true
  emod_int s i (pos zero) small h = let p = positive_from s i (pos zero) h in absurd (omega (arith, ints))
  emod_int s i (pos (suc b)) small h = rest_by s i b small
  emod_int s i (negsuc b) small h = let p = positive_from s i (negsuc b) h in absurd (omega (arith, ints))

  nonzero_from : (s : Shape) (i j : ℤ) → is_met beyond (row_type R.TdivInt s) (W.Integer i ∷ W.Integer j ∷ []) ≡ true
      → not (int_eq j (pos 0)) ≡ true
  nonzero_from s i j h =
      let nu = variables beyond P.Nothing (W.Integer i ∷ W.Integer j ∷ []) (pos 0) in
      sym (λ k. not (int_eq (number_variable nu 1 k) (number_constant nu (pos 0) k)))
      ∙ sym (true_compare nu Is.NotEqual second (constant (pos 0)))
      ∙ one_from nu (C.Compare Is.NotEqual second (constant (pos 0))) h

  pub tdiv_int : (s : Shape) (i j : ℤ) → is_small i ≡ true → let vs : Opened = W.Integer i ∷ W.Integer j ∷ [] in
      is_met beyond (row_type R.TdivInt s) vs ≡ true
      → gives beyond (row_type R.TdivInt s) vs (row_of R.TdivInt vs) ≡ true
  tdiv_int s i j small h =
      let vs : Opened = W.Integer i ∷ W.Integer j ∷ [] in
      gives_where beyond (row_type R.TdivInt s) vs (not (int_eq j (pos 0))) (an_integer (int_div i j))
      (nonzero_from s i j h)
      (any_gives beyond P.Nothing (C.Compare Is.NotEqual second (constant (pos 0)) ∷ []) [] vs (int_div i j) refl
      (shrunk (int_div i j) i (quotient_shrinks i j) small))

  pub tmod_int : (s : Shape) (i j : ℤ) → is_small i ≡ true → let vs : Opened = W.Integer i ∷ W.Integer j ∷ [] in
      is_met beyond (row_type R.TmodInt s) vs ≡ true
      → gives beyond (row_type R.TmodInt s) vs (row_of R.TmodInt vs) ≡ true
  tmod_int s i j small h =
      let vs : Opened = W.Integer i ∷ W.Integer j ∷ [] in
      gives_where beyond (row_type R.TmodInt s) vs (not (int_eq j (pos 0))) (an_integer (int_rem i j))
      (nonzero_from s i j h)
      (any_gives beyond P.Nothing (C.Compare Is.NotEqual second (constant (pos 0)) ∷ []) [] vs (int_rem i j) refl
      (shrunk (int_rem i j) i (rest_shrinks i j) small))

  -- ---- powers of two

  power_at : (s : Shape) (n : ℕ) → n ≤ 126
      → gives beyond (row_type R.Pow2 s) (W.Integer (pos n) ∷ []) (row_of R.Pow2 (W.Integer (pos n) ∷ [])) ≡ true
  power_at s n h =
      let vs : Opened = W.Integer (pos n) ∷ [] in
      let nu = variables beyond P.Nothing vs (pos (2 ^ n)) in
      ap (λ b. gives beyond (row_type R.Pow2 s) vs (and_then (cond b (Some (pos (2 ^ n))) None) an_integer))
      (lt-ltb n 127 (omega arith))
      ∙ integer_gives beyond (within (pos 0) first (pos 126)) (times_power (pos 1) (pos 0) (pos 0)) vs (pos (2 ^ n))
      (number_times_power nu (pos 1) (pos 0) (pos 0) n (plain_exponent n) (omega arith) ∙ plain_power n)
      (small_power_of n h)

  pub pow2 : (s : Shape) (i : ℤ) → is_met beyond (row_type R.Pow2 s) (W.Integer i ∷ []) ≡ true
      → gives beyond (row_type R.Pow2 s) (W.Integer i ∷ []) (row_of R.Pow2 (W.Integer i ∷ [])) ≡ true
  pow2 s (pos n) h =
      let nu = variables beyond P.Nothing (W.Integer (pos n) ∷ []) (pos 0) in
      let range = within_from nu (pos 0) first (pos 126) h in
      let e = number_variable nu 0 in
      power_at s n (omega (arith, ints))
  pow2 s (negsuc n) h =
      let nu = variables beyond P.Nothing (W.Integer (negsuc n) ∷ []) (pos 0) in
      let range = within_from nu (pos 0) first (pos 126) h in
      let e = number_variable nu 0 in
      absurd (omega (arith, ints))

  -- ---- comparisons

  truth_gives : (c : Con) (vs : Opened) (b : Bool) → true_in (variables beyond P.Nothing vs (pos 0)) c ≡ b
      → gives beyond (under [] (O.Truth c)) vs (a_truth b) ≡ true
  truth_gives c vs b e =
      gives_truth beyond (under [] (O.Truth c)) vs b
      (and_from (beq b (true_in (variables beyond P.Nothing vs (pos 0)) c)) true
      (beq_same b (true_in (variables beyond P.Nothing vs (pos 0)) c) e) refl)

  pub compares_gives : (how : Comparison) (i j : ℤ) → let vs : Opened = W.Integer i ∷ W.Integer j ∷ [] in
      gives beyond (under [] (O.Truth (C.Compare how first second))) vs (a_truth (compares how i j)) ≡ true
  compares_gives how i j =
      let vs : Opened = W.Integer i ∷ W.Integer j ∷ [] in
      let nu = variables beyond P.Nothing vs (pos 0) in
      truth_gives (C.Compare how first second) vs (compares how i j)
      (true_compare nu how first second ∙ (λ k. compares how (number_variable nu 0 k) (number_variable nu 1 k)))

  pub lt_int : (s : Shape) (i j : ℤ)
      → let vs : Opened = W.Integer i ∷ W.Integer j ∷ [] in gives beyond (row_type R.LtInt s) vs
      (row_of R.LtInt vs) ≡ true
  lt_int s i j = compares_gives Is.Less i j

  pub lteq_int : (s : Shape) (i j : ℤ)
      → let vs : Opened = W.Integer i ∷ W.Integer j ∷ [] in gives beyond (row_type R.LteqInt s) vs
      (row_of R.LteqInt vs) ≡ true
  lteq_int s i j = compares_gives Is.LessEqual i j

  pub gt_int : (s : Shape) (i j : ℤ)
      → let vs : Opened = W.Integer i ∷ W.Integer j ∷ [] in gives beyond (row_type R.GtInt s) vs
      (row_of R.GtInt vs) ≡ true
  gt_int s i j = compares_gives Is.Greater i j

  pub gteq_int : (s : Shape) (i j : ℤ)
      → let vs : Opened = W.Integer i ∷ W.Integer j ∷ [] in gives beyond (row_type R.GteqInt s) vs
      (row_of R.GteqInt vs) ≡ true
  gteq_int s i j = compares_gives Is.GreaterEqual i j

  pub eq_int : (i j : ℤ)
      → let vs : Opened = W.Integer i ∷ W.Integer j ∷ [] in gives beyond (compared Is.Equal S.Int) vs
      (row_of R.Eq vs) ≡ true
  eq_int i j = compares_gives Is.Equal i j

  pub neq_int : (i j : ℤ)
      → let vs : Opened = W.Integer i ∷ W.Integer j ∷ [] in gives beyond (compared Is.NotEqual S.Int) vs
      (row_of R.Neq vs) ≡ true
  neq_int i j = compares_gives Is.NotEqual i j

  pub not_bool : (s : Shape) (b : Bool)
      → gives beyond (row_type R.NotBool s) (W.Truth b ∷ []) (row_of R.NotBool (W.Truth b ∷ [])) ≡ true
  not_bool s b =
      let vs : Opened = W.Truth b ∷ [] in
      let nu = variables beyond P.Nothing vs (pos 0) in
      truth_gives (C.Not (C.Holds 0)) vs (not b) (true_not nu (C.Holds 0) ∙ ap not (true_holds nu 0))
