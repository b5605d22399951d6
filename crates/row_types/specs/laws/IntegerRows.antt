-- The rows of integers: where what a call owes is true, there is a value, and it is what the table says.
use Rattle.std.proofs.Common.{◌≡◌, ℕ, zero, suc, ◌+◌, ◌*◌, ◌/◌, ◌%◌, ◌^◌, ◌≤◌, Bool, true, false, List, [], ◌∷◌}
use Rattle.std.proofs.Common.{sym, ◌∙◌, refl, subst, arith}
use Rattle.std.specs.Prelude.{ℤ, pos, negsuc, ◌+ℤ◌, ◌-ℤ◌, ◌*ℤ◌, ◌≤ℤ◌, neg_ℤ, nat_abs, int_le, int_div, int_rem}
use Rattle.std.specs.Prelude.{cond, unsigned_abs, ◌&&◌}
use Rattle.std.specs.Int.{int_div_euclid, int_rem_euclid}
use Rattle.std.specs.List.{list_all}
use Rattle.std.specs.Ordering.{int_eq}
use Rattle.std.proofs.Math.Nat.{div-le_self, mod-le, div-add-mod}
use Rattle.std.proofs.lemmas.Int.{ints}
use Rattle.std.proofs.lemmas.Bool.{and_from, le-leb, leb-true}
use Rattle.std.proofs.lemmas.Bool.Decides.{Decides-int_eq}
use Rattle.sail_types.specs.Limits.{largest, is_small}
use Rattle.sail_types.specs.Numbers.{Positive, number, true_in}
use Rattle.sail_types.specs.Sums.{constant}
use Rattle.sail_types.specs.declared.numbers.Num.{Num}
use Rattle.sail_types.specs.declared.numbers.Con.{Con}
use Rattle.sail_types.specs.declared.rows.Row.TheVariants as R
use Rattle.sail_types.specs.declared.shapes.Shape.{Shape}
use Rattle.sail_types.specs.declared.values.Value.TheOpen as W
use Rattle.sail_types.proofs.Substituted.{number_constant}
use Rattle.sail_types.proofs.Integers.{one_time, minus_one_time}
use Rattle.builtins.specs.RowValues.{Opened, an_integer, row_of}
use Rattle.row_types.specs.declared.kinds.Outcome.TheVariants as O
use Rattle.row_types.specs.declared.kinds.Product.{Product}
use Rattle.row_types.specs.declared.kinds.Product.TheVariants as P
use Rattle.row_types.specs.Formulas.{least, most, first, second, answer, product, times, plus_times, at_most}
use Rattle.row_types.specs.RowTypes.{with_product, under, bounded, row_type}
use Rattle.row_types.specs.Calls.{variables, is_met, gives}
use Rattle.row_types.specs.laws.Formulas.{number_variable, number_times, number_plus_times, two_hold}
use Rattle.row_types.specs.laws.Formulas.{compare_variables, within_from}
use Rattle.row_types.specs.laws.Results.{small_from, small_to, gives_integer}

-- ---- integers

pub le_false : (i j : ℤ) → int_le i j ≡ false → j ≤ℤ i
le_false i j h = grind (arith, ints)

pub le_true : (i j : ℤ) → int_le i j ≡ true → i ≤ℤ j
le_true i j h = grind (arith, ints)

le_holds : (i j : ℤ) → i ≤ℤ j → int_le i j ≡ true
le_holds i j h = grind (arith, ints)

-- what is no further from 0 than a small integer is small
pub shrunk : (z i : ℤ) → nat_abs z ≤ nat_abs i → is_small i ≡ true → is_small z ≡ true
unfolding largest
shrunk z i h small = let k = leb-true (nat_abs i) (2 ^ 126) small in le-leb (nat_abs z) (2 ^ 126) (omega arith)

abs_neg : (n : ℕ) → nat_abs (neg_ℤ (pos n)) ≡ n
abs_neg zero = refl
abs_neg (suc n) = refl

pub quotient_shrinks : (i j : ℤ) → nat_abs (int_div i j) ≤ nat_abs i
quotient_shrinks (pos a) (pos b) = div-le_self a b
quotient_shrinks (pos a) (negsuc b) = omega (arith, abs_neg (a / suc b), div-le_self a (suc b))
quotient_shrinks (negsuc a) (pos b) = omega (arith, abs_neg (suc a / b), div-le_self (suc a) b)
quotient_shrinks (negsuc a) (negsuc b) = div-le_self (suc a) (suc b)

pub rest_shrinks : (i j : ℤ) → nat_abs (int_rem i j) ≤ nat_abs i
rest_shrinks (pos a) j = mod-le a (nat_abs j)
rest_shrinks (negsuc a) j = omega (arith, abs_neg (suc a % nat_abs j), mod-le (suc a) (nat_abs j))

pub floor_shrinks : (i : ℤ) (b : ℕ) → nat_abs (int_div_euclid i (pos b)) ≤ nat_abs i
floor_shrinks (pos a) b = div-le_self a b
floor_shrinks (negsuc a) b = omega (arith, div-le_self a b)

-- the quotient rounded down: its multiple is at most the dividend, and less than the divisor below it
pub floor_below : (i : ℤ) (b : ℕ) → (pos (suc b) *ℤ int_div_euclid i (pos (suc b))) ≤ℤ i
floor_below (pos a) b = let k = div-add-mod a (suc b) in omega (arith, ints)
floor_below (negsuc a) b =
    let k = div-add-mod a (suc b) in
    let e : suc b * suc (a / suc b) ≡ suc b * (a / suc b) + suc b = omega arith in
    omega (arith, ints)

pub floor_above : (i : ℤ) (b : ℕ) → i ≤ℤ (pos (suc b) *ℤ int_div_euclid i (pos (suc b)) +ℤ pos b)
floor_above (pos a) b = let k = div-add-mod a (suc b) in omega (arith, ints)
floor_above (negsuc a) b =
    let k = div-add-mod a (suc b) in
    let e : suc b * suc (a / suc b) ≡ suc b * (a / suc b) + suc b = omega arith in
    omega (arith, ints)

pub floor_rest_low : (i : ℤ) (b : ℕ) → pos 0 ≤ℤ int_rem_euclid i (pos (suc b))
floor_rest_low (pos a) b = omega (arith, ints)
floor_rest_low (negsuc a) b = omega (arith, ints)

pub floor_rest_high : (i : ℤ) (b : ℕ) → int_rem_euclid i (pos (suc b)) ≤ℤ pos b
floor_rest_high (pos a) b = omega (arith, ints)
floor_rest_high (negsuc a) b = omega (arith, ints)

pub one_each : (i j : ℤ) → (pos 1 *ℤ i +ℤ pos 1 *ℤ j) +ℤ pos 0 ≡ i +ℤ j
one_each i j = let p = one_time i in let q = one_time j in omega (arith, ints)

pub one_less : (i j : ℤ) → (pos 1 *ℤ i +ℤ negsuc 0 *ℤ j) +ℤ pos 0 ≡ i -ℤ j
one_less i j = let p = one_time i in let q = minus_one_time j in omega (arith, ints)

module _ (beyond : Num → Positive) where
  -- ---- results

  -- an integer that has to be within the limits
  pub bounded_gives : (p : Product) (t : Num) (vs : Opened) (z : ℤ) → number (variables beyond p vs (pos 0)) t ≡ z
      → number (variables beyond p vs z) t ≡ z
      → is_met beyond (bounded p t) vs ≡ true → gives beyond (bounded p t) vs (an_integer z) ≡ true
  bounded_gives p t vs z e f h =
      let range = within_from (variables beyond p vs (pos 0)) least t most h in
      let small : is_small z ≡ true = small_to z (subst (λ x. least ≤ℤ x) e range.0)
      (subst (λ x. x ≤ℤ most) e range.1) in
      gives_integer beyond (bounded p t) vs z small
      (and_from (int_eq z (number (variables beyond p vs z) t)) (is_small z)
      ((Decides-int_eq z (number (variables beyond p vs z) t)).1 (sym f)) small)

  -- an integer that is known
  pub integer_gives : (conditions : List Con) (t : Num) (vs : Opened) (z : ℤ)
      → number (variables beyond P.Nothing vs z) t ≡ z → is_small z ≡ true
      → gives beyond (under conditions (O.Integer t)) vs (an_integer z) ≡ true
  integer_gives conditions t vs z f small =
      gives_integer beyond (under conditions (O.Integer t)) vs z small
      (and_from (int_eq z (number (variables beyond P.Nothing vs z) t)) (is_small z)
      ((Decides-int_eq z (number (variables beyond P.Nothing vs z) t)).1 (sym f)) small)

  -- a fresh one
  pub fresh_gives : (p : Product) (conditions : List Con) (low high : Num) (facts : List Con) (vs : Opened) (z : ℤ)
      → number (variables beyond p vs z) low ≤ℤ z → z ≤ℤ number (variables beyond p vs z) high
      → list_all (true_in (variables beyond p vs z)) facts ≡ true → is_small z ≡ true
      → gives beyond (with_product p conditions (O.Fresh low high facts)) vs (an_integer z) ≡ true
  fresh_gives p conditions low high facts vs z below above known small =
      let nu = variables beyond p vs z in
      gives_integer beyond (with_product p conditions (O.Fresh low high facts)) vs z small
      (and_from ((int_le (number nu low) z && int_le z (number nu high)) && list_all (true_in nu) facts) (is_small z)
      (and_from (int_le (number nu low) z && int_le z (number nu high)) (list_all (true_in nu) facts)
      (and_from (int_le (number nu low) z) (int_le z (number nu high)) (le_holds (number nu low) z below)
      (le_holds z (number nu high) above)) known)
      small)

  -- a fresh one from the least to the largest
  pub any_gives : (p : Product) (conditions facts : List Con) (vs : Opened) (z : ℤ)
      → list_all (true_in (variables beyond p vs z)) facts ≡ true → is_small z ≡ true
      → gives beyond (with_product p conditions (O.Fresh (constant least) (constant most) facts)) vs
      (an_integer z) ≡ true
  any_gives p conditions facts vs z known small =
      let nu = variables beyond p vs z in
      let range = small_from z small in
      fresh_gives p conditions (constant least) (constant most) facts vs z
      (subst (λ x. x ≤ℤ z) (sym (number_constant nu least)) range.0)
      (subst (λ x. z ≤ℤ x) (sym (number_constant nu most)) range.1) known small

  -- ---- sums, differences and products

  pub add_int : (s : Shape) (i j : ℤ) → let vs : Opened = W.Integer i ∷ W.Integer j ∷ [] in
      is_met beyond (row_type R.AddInt s) vs ≡ true
      → gives beyond (row_type R.AddInt s) vs (row_of R.AddInt vs) ≡ true
  add_int s i j h =
      let vs : Opened = W.Integer i ∷ W.Integer j ∷ [] in
      bounded_gives P.Nothing (plus_times 0 (pos 1) 1 (pos 0)) vs (i +ℤ j)
      (number_plus_times (variables beyond P.Nothing vs (pos 0)) 0 (pos 1) 1 (pos 0) ∙ one_each i j)
      (number_plus_times (variables beyond P.Nothing vs (i +ℤ j)) 0 (pos 1) 1 (pos 0) ∙ one_each i j) h

  pub sub_int : (s : Shape) (i j : ℤ) → let vs : Opened = W.Integer i ∷ W.Integer j ∷ [] in
      is_met beyond (row_type R.SubInt s) vs ≡ true
      → gives beyond (row_type R.SubInt s) vs (row_of R.SubInt vs) ≡ true
  sub_int s i j h =
      let vs : Opened = W.Integer i ∷ W.Integer j ∷ [] in
      bounded_gives P.Nothing (plus_times 0 (negsuc 0) 1 (pos 0)) vs (i -ℤ j)
      (number_plus_times (variables beyond P.Nothing vs (pos 0)) 0 (negsuc 0) 1 (pos 0) ∙ one_less i j)
      (number_plus_times (variables beyond P.Nothing vs (i -ℤ j)) 0 (negsuc 0) 1 (pos 0) ∙ one_less i j) h

  pub mult_int : (s : Shape) (i j : ℤ) → let vs : Opened = W.Integer i ∷ W.Integer j ∷ [] in
      is_met beyond (row_type R.MultInt s) vs ≡ true
      → gives beyond (row_type R.MultInt s) vs (row_of R.MultInt vs) ≡ true
  mult_int s i j h =
      let vs : Opened = W.Integer i ∷ W.Integer j ∷ [] in
      bounded_gives P.OfArguments product vs (i *ℤ j) (number_variable (variables beyond P.OfArguments vs (pos 0)) 4)
      (number_variable (variables beyond P.OfArguments vs (i *ℤ j)) 4) h

  -- ---- one integer

  pub neg_int : (s : Shape) (i : ℤ) → is_small i ≡ true
      → gives beyond (row_type R.NegInt s) (W.Integer i ∷ []) (row_of R.NegInt (W.Integer i ∷ [])) ≡ true
  neg_int s i small =
      let vs : Opened = W.Integer i ∷ [] in
      let range = small_from i small in
      let m = minus_one_time i in
      let e : negsuc 0 *ℤ i +ℤ pos 0 ≡ neg_ℤ i = omega (arith, ints) in
      integer_gives [] (times (negsuc 0) 0 (pos 0)) vs (neg_ℤ i)
      (number_times (variables beyond P.Nothing vs (neg_ℤ i)) (negsuc 0) 0 (pos 0) ∙ e)
      (small_to (neg_ℤ i) (omega (arith, ints)) (omega (arith, ints)))

  pub abs_int : (s : Shape) (i : ℤ) → is_small i ≡ true
      → gives beyond (row_type R.AbsInt s) (W.Integer i ∷ []) (row_of R.AbsInt (W.Integer i ∷ [])) ≡ true
  abs_int s i small =
      let vs : Opened = W.Integer i ∷ [] in
      let z : ℤ = pos (unsigned_abs i) in
      let nu = variables beyond P.Nothing vs z in
      let fits : is_small z ≡ true = shrunk z i (omega arith) small in
      let range = small_from z fits in
      fresh_gives P.Nothing [] (constant (pos 0)) (constant most) [] vs z
      (subst (λ x. x ≤ℤ z) (sym (number_constant nu (pos 0))) (omega (arith, ints)))
      (subst (λ x. z ≤ℤ x) (sym (number_constant nu most)) range.1) refl fits

  -- ---- the smaller and the larger

  smaller : (b : Bool) (i j : ℤ) → int_le i j ≡ b → (cond b i j ≤ℤ i) × (cond b i j ≤ℤ j)
  smaller true i j e = (omega (arith, ints), le_true i j e)
  smaller false i j e = (le_false i j e, omega (arith, ints))

  larger : (b : Bool) (i j : ℤ) → int_le i j ≡ b → (i ≤ℤ cond b j i) × (j ≤ℤ cond b j i)
  larger true i j e = (le_true i j e, omega (arith, ints))
  larger false i j e = (omega (arith, ints), le_false i j e)

  either_small : (b : Bool) (i j : ℤ) → is_small i ≡ true → is_small j ≡ true → is_small (cond b i j) ≡ true
  either_small true i j p q = p
  either_small false i j p q = q

  pub min_int : (s : Shape) (i j : ℤ) → is_small i ≡ true → is_small j ≡ true
      → let vs : Opened = W.Integer i ∷ W.Integer j ∷ [] in
      gives beyond (row_type R.MinInt s) vs (row_of R.MinInt vs) ≡ true
  min_int s i j p q =
      let vs : Opened = W.Integer i ∷ W.Integer j ∷ [] in
      let z : ℤ = cond (int_le i j) i j in
      let nu = variables beyond P.Nothing vs z in
      let below = smaller (int_le i j) i j refl in
      any_gives P.Nothing [] (at_most answer first ∷ at_most answer second ∷ []) vs z
      (two_hold nu (at_most answer first) (at_most answer second) (compare_variables nu 3 0 below.0)
      (compare_variables nu 3 1 below.1))
      (either_small (int_le i j) i j p q)

  pub max_int : (s : Shape) (i j : ℤ) → is_small i ≡ true → is_small j ≡ true
      → let vs : Opened = W.Integer i ∷ W.Integer j ∷ [] in
      gives beyond (row_type R.MaxInt s) vs (row_of R.MaxInt vs) ≡ true
  max_int s i j p q =
      let vs : Opened = W.Integer i ∷ W.Integer j ∷ [] in
      let z : ℤ = cond (int_le i j) j i in
      let nu = variables beyond P.Nothing vs z in
      let above = larger (int_le i j) i j refl in
      any_gives P.Nothing [] (at_most first answer ∷ at_most second answer ∷ []) vs z
      (two_hold nu (at_most first answer) (at_most second answer) (compare_variables nu 0 3 above.0)
      (compare_variables nu 1 3 above.1))
      (either_small (int_le i j) j i q p)
