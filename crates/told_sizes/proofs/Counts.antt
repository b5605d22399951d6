-- Which variables are of so many.
use Rattle.std.proofs.Common.{◌≡◌, ℕ, zero, suc, ◌<◌, ◌≤◌, true, false, refl, arith}
use Rattle.told_sizes.specs.Exact.{is_one_of}

pub one_of : (i n : ℕ) → i < n → is_one_of i n ≡ true
one_of i zero h = absurd (omega (arith, h))
one_of zero (suc n) h = refl
one_of (suc i) (suc n) h = one_of i n (omega (arith, h))

pub none_of : (i n : ℕ) → n ≤ i → is_one_of i n ≡ false
none_of zero zero h = refl
none_of (suc i) zero h = refl
none_of zero (suc n) h = absurd (omega (arith, h))
none_of (suc i) (suc n) h = none_of i n (omega (arith, h))
