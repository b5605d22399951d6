-- What a row says of the variables, through sums, products and divisions.
use Rattle.std.proofs.Common.{◌≡◌, ℕ, suc, List, [], ◌∷◌, true, sym, ap, ◌∙◌, subst, refl, arith, ℤ, pos, ◌+ℤ◌, ◌*ℤ◌, ◌≤ℤ◌, ◌<ℤ◌, unsigned_abs}
use Rattle.std.specs.Prelude.{int_div, int_rem}
use Rattle.std.specs.List.{list_all}
use Rattle.std.proofs.lemmas.Int.{ints, quot-rem, by_lt_z}
use Rattle.std.proofs.lemmas.Bool.{and_parts, eqb-true, cond_both}
use Rattle.std.proofs.Math.IntN.{zero-*ℤ, *ℤ-zero, *ℤ_comm, +ℤ_idl, +ℤ_idr}
use Rattle.linear.specs.declared.row.Row.{Row}
use Rattle.linear.specs.Numbers.{is_zero, scaled, divided, are_multiples}
use Rattle.linear.specs.Rows.{total, added, is_constant, combination, quotient_row, IsTrueOf, numbers_of, divisor_of, reduced}
use Rattle.linear.specs.laws.Integers.{times_sum, times_assoc, sum_times, times_order, order_back}
use Rattle.linear.specs.laws.Divisors.{divisor_positive, row_multiples}

pub total_scaled : (m : ℤ) (xs : List ℤ) (value : ℕ → ℤ) → total (scaled m xs) value ≡ m *ℤ total xs value
total_scaled m [] value = sym (*ℤ-zero m)
total_scaled m (x ∷ xs) value =
    (λ j. times_assoc m x (value 0) j +ℤ total_scaled m xs (λ i. value (suc i)) j)
    ∙ sym (times_sum m (x *ℤ value 0) (total xs (λ i. value (suc i))))

swapped : (a b c d : ℤ) → (a +ℤ b) +ℤ (c +ℤ d) ≡ (a +ℤ c) +ℤ (b +ℤ d)
swapped a b c d = omega (arith, ints)

nothing_more : (z : ℤ) → z ≡ z +ℤ pos 0
nothing_more z = omega (arith, ints)

nothing_before : (z : ℤ) → z ≡ pos 0 +ℤ z
nothing_before z = omega (arith, ints)

pub total_added : (xs ys : List ℤ) (value : ℕ → ℤ) → total (added xs ys) value ≡ total xs value +ℤ total ys value
total_added [] ys value = nothing_before (total ys value)
total_added (x ∷ xs) [] value = nothing_more (total (x ∷ xs) value)
total_added (x ∷ xs) (y ∷ ys) value =
    (λ j. sum_times x y (value 0) j +ℤ total_added xs ys (λ i. value (suc i)) j)
    ∙ swapped (x *ℤ value 0) (y *ℤ value 0) (total xs (λ i. value (suc i))) (total ys (λ i. value (suc i)))

none_left : (z : ℤ) → is_zero z ≡ true → z ≡ pos 0
none_left z h = let e : unsigned_abs z ≡ 0 = eqb-true (unsigned_abs z) 0 h in omega (arith, ints)

pub exact : (x d : ℤ) → is_zero (int_rem x d) ≡ true → x ≡ d *ℤ int_div x d
exact x d h = sym (quot-rem x d) ∙ (ap (λ r. (int_div x d *ℤ d) +ℤ r) (none_left (int_rem x d) h) ∙ (+ℤ_idr (int_div x d *ℤ d) ∙ *ℤ_comm (int_div x d) d))

pub total_divided : (d : ℤ) (xs : List ℤ) (value : ℕ → ℤ) → are_multiples d xs ≡ true → total xs value ≡ d *ℤ total (divided d xs) value
total_divided d [] value h = sym (*ℤ-zero d)
total_divided d (x ∷ xs) value h =
    let p = and_parts (is_zero (int_rem x d)) (are_multiples d xs) h in
    (λ j. (exact x d p.0 j *ℤ value 0) +ℤ total_divided d xs (λ i. value (suc i)) p.1 j)
    ∙ ((λ j. times_assoc d (int_div x d) (value 0) j +ℤ (d *ℤ total (divided d xs) (λ i. value (suc i))))
    ∙ sym (times_sum d (int_div x d *ℤ value 0) (total (divided d xs) (λ i. value (suc i)))))

pub total_constant : (xs : List ℤ) (value : ℕ → ℤ) → list_all is_zero xs ≡ true → total xs value ≡ pos 0
total_constant [] value h = refl
total_constant (x ∷ xs) value h =
    let p = and_parts (is_zero x) (list_all is_zero xs) h in
    (λ j. (none_left x p.0 j *ℤ value 0) +ℤ total_constant xs (λ i. value (suc i)) p.1 j)
    ∙ (ap (λ z. z +ℤ pos 0) (zero-*ℤ (value 0)) ∙ +ℤ_idl (pos 0))

sums_order : (a b c d : ℤ) → a ≤ℤ c → b ≤ℤ d → (a +ℤ b) ≤ℤ (c +ℤ d)
sums_order a b c d h k = omega (arith, ints)

weaken : (m : ℤ) → pos 0 <ℤ m → pos 0 ≤ℤ m
weaken m h = omega (arith, ints)

-- a combination of true rows is true
pub combination_true : (value : ℕ → ℤ) (m : ℤ) (a : Row) (n : ℤ) (b : Row) → pos 0 <ℤ m → pos 0 <ℤ n → IsTrueOf value a → IsTrueOf value b
    → IsTrueOf value (combination m a n b)
combination_true value m a n b h k p q =
    subst (λ z. z ≤ℤ ((m *ℤ a.bound) +ℤ (n *ℤ b.bound)))
    (sym (total_added (scaled m a.coefficients) (scaled n b.coefficients) value
    ∙ (λ j. total_scaled m a.coefficients value j +ℤ total_scaled n b.coefficients value j)))
    (sums_order _ _ _ _ (times_order m _ _ (weaken m h) p) (times_order n _ _ (weaken n k) q))

-- a row that is divided exactly says the same
pub quotient_true : (value : ℕ → ℤ) (d : ℤ) (row : Row) → pos 0 <ℤ d → are_multiples d (numbers_of row) ≡ true → IsTrueOf value row
    → IsTrueOf value (quotient_row d row)
quotient_true value d row h multiples p =
    let parts = and_parts (is_zero (int_rem row.bound d)) (are_multiples d row.coefficients) multiples in
    order_back d _ _ h
    (subst (λ z. z ≤ℤ (d *ℤ int_div row.bound d)) (total_divided d row.coefficients value parts.1)
    (subst (λ z. total row.coefficients value ≤ℤ z) (exact row.bound d parts.0) p))

-- a row of zeros with a negative bound is true of nothing
pub never_true : (value : ℕ → ℤ) (row : Row) → is_constant row ≡ true → row.bound <ℤ pos 0 → IsTrueOf value row → ⊥
never_true value row zeros negative p =
    let q : pos 0 ≤ℤ row.bound = subst (λ z. z ≤ℤ row.bound) (total_constant row.coefficients value zeros) p in
    omega (arith, ints)

-- a row divided by its greatest divisor says the same
pub reduced_true : (value : ℕ → ℤ) (row : Row) → IsTrueOf value row → IsTrueOf value (reduced row)
reduced_true value row p =
    cond_both (is_zero (divisor_of row)) row (quotient_row (divisor_of row) row) (IsTrueOf value)
    (λ h. p)
    (λ h. quotient_true value (divisor_of row) row (divisor_positive row h) (row_multiples row) p)

-- an exact quotient of positive numbers is positive
pub quotient_positive : (x d : ℤ) → pos 0 <ℤ x → pos 0 <ℤ d → is_zero (int_rem x d) ≡ true → pos 0 <ℤ int_div x d
quotient_positive x d h k m =
    by_lt_z (pos 0) (int_div x d)
    (λ l. l)
    (λ l.
    let e : (d *ℤ int_div x d) ≤ℤ (d *ℤ pos 0) = times_order d (int_div x d) (pos 0) (weaken d k) l in
    let z : x ≤ℤ pos 0 = subst (λ w. w ≤ℤ pos 0) (sym (exact x d m)) (subst (λ w. (d *ℤ int_div x d) ≤ℤ w) (*ℤ-zero d) e) in
    absurd (omega (arith, ints)))
