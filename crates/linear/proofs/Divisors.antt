-- The greatest common divisor by its definition and by its divisors.
use Rattle.std.proofs.Common.{◌≡◌, ℕ, zero, suc, ◌+◌, ◌%◌, ◌<◌, ◌≤◌, Bool, true, false, ◌&&◌, sym, ap, ◌∙◌, subst}
use Rattle.std.proofs.Common.{arith, inl, inr, ℤ, pos, unsigned_abs, ◌-◌, ◌^◌, to_z, FitsSigned}
use Rattle.std.specs.Prelude.{◌==◌}
use Rattle.std.specs.Int.{w128, IsGcd, ◌∣◌}
use Rattle.std.proofs.lemmas.Bool.{lt-ltb, eqb-true, eq-eqb, and_parts, and_from, cond-true, cond-false, false_from_ne_true, cases_eq, cases_lt}
use Rattle.std.proofs.lemmas.Int.{ints, to_z_pos}
use Rattle.std.proofs.lemmas.Nat.Gcd.{le_of_dvd, dvd-zero, dvd_of_mod-eq-zero, mod-eq-zero_of_dvd}
use Rattle.std.proofs.Math.Nat.{eq-zero_of_zero-dvd}
use Rattle.linear.specs.Numbers.{is_within, greatest, divisor_of_sizes, gcd}

pub greatest_is : (test : ℕ → Bool) (g n : ℕ) → g ≤ n → (0 < g → test g ≡ true) → ((d : ℕ) → g < d → d ≤ n → test d ≡ false) → greatest test n ≡ g
greatest_is test g zero within passes above = omega arith
greatest_is test g (suc n) within passes above =
    elim (cases_eq g (suc n)) [
      | inl e ↦ cond-true (test (suc n)) (suc n) (greatest test n) (subst (λ k. test k ≡ true) e (passes (omega arith))) ∙ sym e
      | inr ne ↦
          cond-false (test (suc n)) (suc n) (greatest test n) (above (suc n) (omega arith) (omega arith))
          ∙ greatest_is test g n (omega arith) passes (λ d l m. above d l (omega arith))
    ]

common : (a b g : ℕ) → 0 < g → IsGcd a b g → (a % g == 0 && b % g == 0) ≡ true
common a b g some h = and_from (a % g == 0) (b % g == 0) (eq-eqb (a % g) 0 (mod-eq-zero_of_dvd g h.0)) (eq-eqb (b % g) 0 (mod-eq-zero_of_dvd g h.1))

divides : (a b g d : ℕ) → IsGcd a b g → (a % d == 0 && b % d == 0) ≡ true → d ∣ g
divides a b g d h t =
    let p = and_parts (a % d == 0) (b % d == 0) t in
    h.2 d (dvd_of_mod-eq-zero d (eqb-true (a % d) 0 p.0)) (dvd_of_mod-eq-zero d (eqb-true (b % d) 0 p.1))

not_above : (a b g d : ℕ) → IsGcd a b g → g < d → d ≤ a + b → (a % d == 0 && b % d == 0) ≡ false
not_above a b g d h l m =
    false_from_ne_true (a % d == 0 && b % d == 0)
    (λ t.
    elim (cases_lt 0 g) [
      | inl some ↦ let e : d ≤ g = le_of_dvd some (divides a b g d h t) in omega arith
      | inr none ↦
          let z : g ≡ 0 = omega arith in
          let p : a ≡ 0 = eq-zero_of_zero-dvd (subst (λ k. k ∣ a) z h.0) in
          let q : b ≡ 0 = eq-zero_of_zero-dvd (subst (λ k. k ∣ b) z h.1) in
          omega arith
    ])

small : (a b g : ℕ) → IsGcd a b g → g ≤ a + b
small zero zero g h = let e : g ≡ 0 = eq-zero_of_zero-dvd (h.2 0 (dvd-zero 0) (dvd-zero 0)) in omega arith
small zero (suc b) g h = let l : g ≤ suc b = le_of_dvd (omega arith) h.1 in omega arith
small (suc a) b g h = let l : g ≤ suc a = le_of_dvd (omega arith) h.0 in omega arith

sizes_is : (a b g : ℕ) → IsGcd a b g → divisor_of_sizes a b ≡ g
sizes_is a b g h = greatest_is (λ d. a % d == 0 && b % d == 0) g (a + b) (small a b g h) (λ some. common a b g some h) (λ d l m. not_above a b g d h l m)

pub gcd_is : (a b : ℤ) (g : ℕ) → IsGcd (unsigned_abs a) (unsigned_abs b) g → gcd a b ≡ pos g
unfolding gcd
gcd_is a b g h = ap pos (sizes_is (unsigned_abs a) (unsigned_abs b) g h)

-- a common divisor is no larger than a bound on both numbers
pub divisor_le : (m n g t : ℕ) → m ≤ t → n ≤ t → IsGcd m n g → g ≤ t
divisor_le zero zero g t p q d = let e : g ≡ 0 = eq-zero_of_zero-dvd (d.2 0 (dvd-zero 0) (dvd-zero 0)) in omega arith
divisor_le zero (suc n) g t p q d = let l : g ≤ suc n = le_of_dvd (omega arith) d.1 in omega arith
divisor_le (suc m) n g t p q d = let l : g ≤ suc m = le_of_dvd (omega arith) d.0 in omega arith

-- as the code finds it, at 128 bits
module _ (a b : ℤ) (m n g : ℕ) (first : m ≡ unsigned_abs a) (second : n ≡ unsigned_abs b) (small_first : m < 2 ^ 127) (small_second : n < 2 ^ 127) (h :
    IsGcd m n g) where
  below : g < 2 ^ 127
  below = let l : g ≤ 2 ^ 127 - 1 = divisor_le m n g (2 ^ 127 - 1) (omega arith) (omega arith) h in omega arith

  pub found_fits : FitsSigned w128 (pos g)
  found_fits = omega (arith, ints, below)

  pub found_within : is_within (to_z w128 g) ≡ true
  found_within = ap is_within (to_z_pos w128 g below) ∙ lt-ltb g (2 ^ 127) below

  pub found_is : to_z w128 g ≡ gcd a b
  found_is = to_z_pos w128 g below ∙ sym (gcd_is a b g (subst (λ k. IsGcd k (unsigned_abs b) g) first (subst (λ k. IsGcd m k g) second h)))
