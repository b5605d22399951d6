-- The greatest common divisor of two integers of 128 bits.
use Rattle.std.proofs.Common.{◌≡◌, ℕ, zero, suc, ◌^◌, ◌<◌, ◌≤◌, sym, ap, ◌∙◌, subst, arith, le_antisymm}
use Rattle.std.proofs.Common.{le_trans, ℤ, pos, unsigned_abs, ◌≤ℤ◌, SFits, to_z, of_z}
use Rattle.std.specs.Int.{w128, IsGcd}
use Rattle.std.proofs.lemmas.Int.{ints, to_z_pos, to_z-of_z}
use Rattle.std.proofs.lemmas.Nat.Gcd.{le_of_dvd, dvd-zero}
use Rattle.std.proofs.Math.Nat.{eq-zero_of_zero-dvd}

-- the sizes of two integers, as the code computes them
sizes :
    (a b : ℤ) (m n g : ℕ) → SFits w128 a → SFits w128 b → m ≡ unsigned_abs (to_z w128 (of_z w128 a))
    → n ≡ unsigned_abs (to_z w128 (of_z w128 b)) → IsGcd m n g → IsGcd (unsigned_abs a) (unsigned_abs b) g
sizes a b m n g f h p q d =
    let p' : m ≡ unsigned_abs a = p ∙ ap unsigned_abs (to_z-of_z w128 a f) in
    let q' : n ≡ unsigned_abs b = q ∙ ap unsigned_abs (to_z-of_z w128 b h) in
    subst (λ k. IsGcd k (unsigned_abs b) g) p' (subst (λ k. IsGcd m k g) q' d)

pub gcd_found :
    (a b : ℤ) (m n g : ℕ) → SFits w128 a → SFits w128 b → m ≡ unsigned_abs (to_z w128 (of_z w128 a))
    → n ≡ unsigned_abs (to_z w128 (of_z w128 b)) → IsGcd m n g → g < 2 ^ 127
    → (pos 0 ≤ℤ to_z w128 g) × IsGcd (unsigned_abs a) (unsigned_abs b) (unsigned_abs (to_z w128 g))
gcd_found a b m n g f h p q d l =
    let z : to_z w128 g ≡ pos g = to_z_pos w128 g l in (
      subst (λ k. pos 0 ≤ℤ k) (sym z) (omega (arith, ints)),
      subst (λ k. IsGcd (unsigned_abs a) (unsigned_abs b) (unsigned_abs k)) (sym z) (sizes a b m n g f h p q d),
    )

-- a common divisor is no larger than a bound on both numbers
divisor_le : (m n g t : ℕ) → m ≤ t → n ≤ t → IsGcd m n g → g ≤ t
divisor_le zero zero g t p q d = let e : g ≡ 0 = eq-zero_of_zero-dvd (d.2 0 (dvd-zero 0) (dvd-zero 0)) in omega arith
divisor_le zero (suc n) g t p q d = le_trans (le_of_dvd (omega arith) d.1) q
divisor_le (suc m) n g t p q d = le_trans (le_of_dvd (omega arith) d.0) p

pub gcd_past :
    (a b : ℤ) (m n g : ℕ) → SFits w128 a → SFits w128 b → m ≡ unsigned_abs (to_z w128 (of_z w128 a))
    → n ≡ unsigned_abs (to_z w128 (of_z w128 b)) → m ≤ 2 ^ 127 → n ≤ 2 ^ 127 → IsGcd m n g → 2 ^ 127 ≤ g
    → IsGcd (unsigned_abs a) (unsigned_abs b) (2 ^ 127)
gcd_past a b m n g f h p q u v d l =
    let e : g ≡ 2 ^ 127 = le_antisymm (divisor_le m n g (2 ^ 127) u v d) l in
    subst (λ k. IsGcd (unsigned_abs a) (unsigned_abs b) k) e (sizes a b m n g f h p q d)
