-- What passes 128 bits passes the largest integer.
use Rattle.std.proofs.Common.{◌≡◌, ℕ, ◌*◌, ◌%◌, ◌^◌, ◌<◌, ◌≤ℤ◌, ◌<ℤ◌, ℤ, pos, negsuc, Bool, true, false, refl, ap, ◌∙◌, arith, FitsSigned}
use Rattle.std.proofs.Common.{to_z, of_z, Some}
use Rattle.std.specs.Prelude.{nat_abs}
use Rattle.std.specs.Int.{w128}
use Rattle.std.proofs.lemmas.Int.{fits_signed_from_abs, to_z_pos, ints}
use Rattle.std.proofs.Math.Pow.{pow-lt}
use Rattle.std.proofs.Math.Nat.{mod-eq_of_lt}
use Rattle.std.proofs.lemmas.Bool.{leb-true, lt-ltb}
use Rattle.sail_types.specs.Limits.{largest, is_small, small_power}

small_fits : (z : ℤ) → is_small z ≡ true → FitsSigned w128 z
unfolding largest
small_fits z h = fits_signed_from_abs w128 z (omega (arith, leb-true (nat_abs z) (2 ^ 126) h))

by_test : (b : Bool) → (b ≡ true → ⊥) → b ≡ false
by_test true h = absurd (h refl)
by_test false h = refl

pub past : (z : ℤ) → (FitsSigned w128 z → ⊥) → is_small z ≡ false
past z h = by_test (is_small z) (λ s. h (small_fits z s))

below_half : (n : ℕ) → n < 127 → 2 ^ n < 2 ^ 127
below_half n h = pow-lt h

shifted_nat : (n : ℕ) → n < 127 → Some (to_z w128 (1 * 2 ^ n % 2 ^ 128)) ≡ small_power (pos n)
shifted_nat n h =
    let low : 2 ^ n < 2 ^ 127 = pow-lt h in
    let whole : 1 * 2 ^ n % 2 ^ 128 ≡ 2 ^ n = mod-eq_of_lt (omega (arith, low)) ∙ omega arith in
    ap (λ m. Some (to_z w128 m)) whole ∙ ap Some (to_z_pos w128 (2 ^ n) low) ∙ rw lt-ltb refl

pub shifted : (z : ℤ) → pos 0 ≤ℤ z → z <ℤ pos 127 → Some (to_z w128 (1 * 2 ^ of_z w128 z % 2 ^ 128)) ≡ small_power z
shifted (pos n) h k = shifted_nat n (omega (arith, ints))
shifted (negsuc n) h k = absurd (omega (arith, ints))
