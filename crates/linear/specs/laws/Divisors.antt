-- The greatest common divisor divides.
use Rattle.std.proofs.Common.{◌≡◌, ℕ, zero, suc, ◌+◌, ◌%◌, ◌<◌, ◌≤◌, Bool, true, false, ◌&&◌, List, [], ◌∷◌, sym, ap}
use Rattle.std.proofs.Common.{◌∙◌, subst, refl, arith, inl, inr, ℤ, pos, negsuc, neg_ℤ, unsigned_abs, ◌<ℤ◌}
use Rattle.std.specs.Prelude.{◌==◌, int_rem, int_lt}
use Rattle.std.specs.Int.{◌∣◌}
use Rattle.std.specs.List.{fold, list_all}
use Rattle.std.proofs.Math.Nat.{eq-zero_of_zero-dvd}
use Rattle.std.proofs.lemmas.Int.{ints}
use Rattle.std.proofs.lemmas.Bool.{eqb-true, eq-eqb, and_parts, and_from, cond-true, cond-false, cases_Bool, false≢true, cases_eq, false_from_ne_true}
use Rattle.std.proofs.lemmas.Nat.Gcd.{dvd_refl, dvd_trans, dvd_of_mod-eq-zero, mod-eq-zero_of_dvd}
use Rattle.linear.specs.declared.row.Row.{Row}
use Rattle.linear.specs.Numbers.{is_zero, are_multiples, greatest, divisor_of_sizes, gcd}
use Rattle.linear.specs.Rows.{numbers_of, is_multiple, is_constant, divisor_of}

greatest_passes : (test : ℕ → Bool) (n d : ℕ) → 0 < d → d ≤ n → test d ≡ true → test (greatest test n) ≡ true
greatest_passes test zero d some within h = absurd (omega arith)
greatest_passes test (suc n) d some within h =
    elim (cases_Bool (test (suc n))) [
      | inl t ↦ ap test (cond-true (test (suc n)) (suc n) (greatest test n) t) ∙ t
      | inr f ↦
          elim (cases_eq d (suc n)) [
            | inl e ↦ absurd (false≢true (sym f ∙ subst (λ k. test k ≡ true) e h))
            | inr ne ↦ ap test (cond-false (test (suc n)) (suc n) (greatest test n) f) ∙ greatest_passes test n d some (omega arith) h
          ]
    ]

by_one : (m n : ℕ) → (m % 1 == 0 && n % 1 == 0) ≡ true
by_one m n = and_from (m % 1 == 0) (n % 1 == 0) (eq-eqb (m % 1) 0 (omega arith)) (eq-eqb (n % 1) 0 (omega arith))

passes : (m n : ℕ) → 0 < m + n → (m % divisor_of_sizes m n == 0 && n % divisor_of_sizes m n == 0) ≡ true
passes m n some = greatest_passes (λ d. m % d == 0 && n % d == 0) (m + n) 1 (omega arith) (omega arith) (by_one m n)

divides_some : (m n : ℕ) → 0 < m + n → (divisor_of_sizes m n ∣ m) × (divisor_of_sizes m n ∣ n)
divides_some m n some =
    let p = and_parts (m % divisor_of_sizes m n == 0) (n % divisor_of_sizes m n == 0) (passes m n some) in (
      dvd_of_mod-eq-zero (divisor_of_sizes m n) (eqb-true (m % divisor_of_sizes m n) 0 p.0),
      dvd_of_mod-eq-zero (divisor_of_sizes m n) (eqb-true (n % divisor_of_sizes m n) 0 p.1),
    )

divides_sizes : (m n : ℕ) → (divisor_of_sizes m n ∣ m) × (divisor_of_sizes m n ∣ n)
divides_sizes zero zero = (dvd_refl 0, dvd_refl 0)
divides_sizes zero (suc n) = divides_some zero (suc n) (omega arith)
divides_sizes (suc m) n = divides_some (suc m) n (omega arith)

pub gcd_divides : (a b : ℤ) → (unsigned_abs (gcd a b) ∣ unsigned_abs a) × (unsigned_abs (gcd a b) ∣ unsigned_abs b)
unfolding gcd
gcd_divides a b = divides_sizes (unsigned_abs a) (unsigned_abs b)

first_divides : (g : ℤ) (xs : List ℤ) → unsigned_abs (fold gcd g xs) ∣ unsigned_abs g
first_divides g [] = dvd_refl (unsigned_abs g)
first_divides g (x ∷ xs) = dvd_trans (unsigned_abs (fold gcd (gcd g x) xs)) (first_divides (gcd g x) xs) (gcd_divides g x).0

pub multiple : (x d : ℤ) → unsigned_abs d ∣ unsigned_abs x → is_zero (int_rem x d) ≡ true
multiple (pos a) d h = eq-eqb (a % unsigned_abs d) 0 (mod-eq-zero_of_dvd (unsigned_abs d) h)
multiple (negsuc a) d h = ap is_zero (ap (λ n. neg_ℤ (pos n)) (mod-eq-zero_of_dvd (unsigned_abs d) h))

all_multiples : (g : ℤ) (xs : List ℤ) → are_multiples (fold gcd g xs) xs ≡ true
all_multiples g [] = refl
all_multiples g (x ∷ xs) =
    and_from (is_zero (int_rem x (fold gcd (gcd g x) xs))) (are_multiples (fold gcd (gcd g x) xs) xs)
    (multiple x (fold gcd (gcd g x) xs) (dvd_trans (unsigned_abs (fold gcd (gcd g x) xs)) (first_divides (gcd g x) xs) (gcd_divides g x).1))
    (all_multiples (gcd g x) xs)

pub row_multiples : (row : Row) → is_multiple (divisor_of row) row ≡ true
row_multiples row = all_multiples (pos 0) (numbers_of row)

-- it is not negative
pub gcd_size : (a b : ℤ) → gcd a b ≡ pos (divisor_of_sizes (unsigned_abs a) (unsigned_abs b))
unfolding gcd
gcd_size a b = refl

folded : (n : ℕ) (xs : List ℤ) → (m : ℕ) × (fold gcd (pos n) xs ≡ pos m)
folded n [] = (n, refl)
folded n (x ∷ xs) =
    let rest = folded (divisor_of_sizes n (unsigned_abs x)) xs in
    (rest.0, ap (λ g. fold gcd g xs) (gcd_size (pos n) x) ∙ rest.1)

nonzero : (m : ℕ) (z : ℤ) → z ≡ pos m → is_zero z ≡ false → pos 0 <ℤ z
nonzero zero z e h = absurd (false≢true (sym h ∙ ap is_zero e))
nonzero (suc m) z e h = omega (arith, ints)

pub divisor_positive : (row : Row) → is_zero (divisor_of row) ≡ false → pos 0 <ℤ divisor_of row
divisor_positive row h = let p = folded 0 (numbers_of row) in nonzero p.0 (divisor_of row) p.1 h

-- and is not 0 where the first number isn't
pub gcd_nonzero : (a b : ℤ) → int_lt (pos 0) a ≡ true → is_zero (gcd a b) ≡ true → ⊥
gcd_nonzero a b h z =
    let e : unsigned_abs (gcd a b) ≡ 0 = eqb-true (unsigned_abs (gcd a b)) 0 z in
    let n : unsigned_abs a ≡ 0 = eq-zero_of_zero-dvd (subst (λ k. k ∣ unsigned_abs a) e (gcd_divides a b).0) in
    omega (arith, ints)

-- all numbers are 0 where the greatest number that divides them is
zero_numbers : (g : ℤ) (xs : List ℤ) → is_zero (fold gcd g xs) ≡ true → list_all is_zero xs ≡ true
zero_numbers g [] h = refl
zero_numbers g (x ∷ xs) h =
    let e : unsigned_abs (fold gcd (gcd g x) xs) ≡ 0 = eqb-true (unsigned_abs (fold gcd (gcd g x) xs)) 0 h in
    let z : unsigned_abs x ≡ 0 = eq-zero_of_zero-dvd (subst (λ k. k ∣ unsigned_abs x) e
    (dvd_trans (unsigned_abs (fold gcd (gcd g x) xs)) (first_divides (gcd g x) xs) (gcd_divides g x).1)) in
    and_from (is_zero x) (list_all is_zero xs) (eq-eqb (unsigned_abs x) 0 z) (zero_numbers (gcd g x) xs h)

pub zero_row : (row : Row) → is_zero (divisor_of row) ≡ true → (is_zero row.bound ≡ true) × (is_constant row ≡ true)
zero_row row h = and_parts (is_zero row.bound) (list_all is_zero row.coefficients) (zero_numbers (pos 0) (numbers_of row) h)

pub gcd_positive : (a b : ℤ) → int_lt (pos 0) a ≡ true → pos 0 <ℤ gcd a b
gcd_positive a b h = nonzero (divisor_of_sizes (unsigned_abs a) (unsigned_abs b)) (gcd a b) (gcd_size a b)
    (false_from_ne_true (is_zero (gcd a b)) (gcd_nonzero a b h))
