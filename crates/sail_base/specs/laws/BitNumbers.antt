-- Sums, differences, products, bitwise operations and signed readings of words, as numbers.
use Rattle.std.proofs.Common.{◌≡◌, ℕ, zero, suc, ◌+◌, ◌-◌, ◌*◌, ◌/◌, ◌%◌, ◌^◌, ◌<◌, ◌≤◌, not, ◌&&◌, ◌||◌}
use Rattle.std.proofs.Common.{nat_eq, ◌∷◌, refl, sym, ap, ◌∙◌, arith, pow-add, pos, negsuc, ◌-ℤ◌, ⊎_elim}
use Rattle.std.proofs.Common.{bit_and, bit_or, bit_xor}
use Rattle.std.proofs.lemmas.Bool.{cases_lt}
use Rattle.std.proofs.Math.Nat.{add-mul-mod_self_right}
use Rattle.std.proofs.lemmas.Int.{ints}
use Rattle.std.proofs.lemmas.Nat.{and_shr, or_shr, xor_shr, and_mod, or_mod, xor_mod}
use Rattle.sail_base.specs.Bits.{is_odd, bits_of, not_bits, bits_of_int, sub_bits, mul_bits, and_bits, or_bits, xor_bits, differ}
use Rattle.sail_base.specs.laws.BitLaws.{length-bits_of, value_of-bits_of_fits, bits_of-mod, mod-pow_twice, double}

-- a multiple of 2 to the width more or less leaves the low bits as they are
pub bits_of-add-multiple : (w n k : ℕ) → bits_of w (n + k * 2 ^ w) ≡ bits_of w n
bits_of-add-multiple w n k =
    sym (bits_of-mod w (n + k * 2 ^ w)) ∙ ap (bits_of w) (add-mul-mod_self_right n k (2 ^ w)) ∙ bits_of-mod w n

turned : (a b : ℕ) → a + b ≡ 1 → nat_eq b 1 ≡ not (nat_eq a 1)
turned zero zero e = absurd (omega arith)
turned zero (suc zero) e = refl
turned zero (suc (suc b)) e = absurd (omega arith)
turned (suc zero) zero e = refl
turned (suc zero) (suc b) e = absurd (omega arith)
turned (suc (suc a)) b e = absurd (omega arith)

-- the two numbers of a word and its complement make 2 to the width, less one
pub bits_of-complement : (w n m k : ℕ) → n + m + 1 ≡ k * 2 ^ w → bits_of w m ≡ not_bits (bits_of w n)
unfolding bits_of
bits_of-complement zero n m k e = refl
bits_of-complement (suc w) n m k e =
    let d : k * 2 ^ suc w ≡ 2 * (k * 2 ^ w) = double k w in
    let low : n % 2 + m % 2 ≡ 1 = omega arith in
    let high : n / 2 + m / 2 + 1 ≡ k * 2 ^ w = omega arith in
    λ i. turned (n % 2) (m % 2) low i ∷ bits_of-complement w (n / 2) (m / 2) k high i

-- 2 to a wider width is a multiple of 2 to the width
pub pow_multiple : (t w : ℕ) → w ≤ t → 2 ^ t ≡ 2 ^ (t - w) * 2 ^ w
pow_multiple t w h = let e : t ≡ t - w + w = omega arith in ap (λ k. 2 ^ k) e ∙ pow-add 2 (t - w) w

difference : (t w x y : ℕ) → w ≤ t → y < 2 ^ t → bits_of w (x + (2 ^ t - y)) ≡ bits_of_int w (pos x -ℤ pos y)
difference t w x y h k =
    ⊎_elim (λ (lt : x < y).
    let z : pos x -ℤ pos y ≡ negsuc (y - x - 1) = omega (arith, ints) in
    let s : y - x - 1 + (x + (2 ^ t - y)) + 1 ≡ 2 ^ (t - w) * 2 ^ w = omega (arith, pow_multiple t w h) in
    bits_of-complement w (y - x - 1) (x + (2 ^ t - y)) (2 ^ (t - w)) s ∙ sym (ap (bits_of_int w) z))
    (λ (le : y ≤ x).
    let z : pos x -ℤ pos y ≡ pos (x - y) = omega (arith, ints) in
    let s : x + (2 ^ t - y) ≡ x - y + 2 ^ (t - w) * 2 ^ w = omega (arith, pow_multiple t w h) in
    ap (bits_of w) s ∙ bits_of-add-multiple w (x - y) (2 ^ (t - w)) ∙ sym (ap (bits_of_int w) z))
    (cases_lt x y)

-- the difference as an integer: where it is negative, its bits are those of the distance below -1, turned
pub sub_bits-numbers :
    (t w v x y r : ℕ) → w ≤ t → x < 2 ^ w → y < 2 ^ v → y < 2 ^ t → r ≡ (x + (2 ^ t - y)) % 2 ^ t % 2 ^ w
    → bits_of w r ≡ sub_bits (bits_of w x) (bits_of v y)
sub_bits-numbers t w v x y r h p q k e =
    ap (bits_of w) (e ∙ mod-pow_twice t w (x + (2 ^ t - y)) h) ∙ bits_of-mod w (x + (2 ^ t - y))
    ∙ difference t w x y h k
    ∙ (λ i. bits_of_int (sym (length-bits_of w x) i) (pos (sym (value_of-bits_of_fits w x p) i) -ℤ pos (sym (value_of-bits_of_fits v y q) i)))

pub mul_bits-numbers :
    (t w v x y r : ℕ) → w ≤ t → x < 2 ^ w → y < 2 ^ v → r ≡ (x * y) % 2 ^ t % 2 ^ w
    → bits_of w r ≡ mul_bits (bits_of w x) (bits_of v y)
mul_bits-numbers t w v x y r h p q e =
    ap (bits_of w) (e ∙ mod-pow_twice t w (x * y) h) ∙ bits_of-mod w (x * y)
    ∙ (λ i. bits_of (sym (length-bits_of w x) i) (sym (value_of-bits_of_fits w x p) i * sym (value_of-bits_of_fits v y q) i))

-- ---- bit by bit

-- at one bit
and_one : (a b : ℕ) → a < 2 → b < 2 → nat_eq (bit_and a b) 1 ≡ (nat_eq a 1 && nat_eq b 1)
and_one zero zero p q = refl
and_one zero (suc zero) p q = refl
and_one zero (suc (suc b)) p q = absurd (omega arith)
and_one (suc zero) zero p q = refl
and_one (suc zero) (suc zero) p q = refl
and_one (suc zero) (suc (suc b)) p q = absurd (omega arith)
and_one (suc (suc a)) b p q = absurd (omega arith)

or_one : (a b : ℕ) → a < 2 → b < 2 → nat_eq (bit_or a b) 1 ≡ (nat_eq a 1 || nat_eq b 1)
or_one zero zero p q = refl
or_one zero (suc zero) p q = refl
or_one zero (suc (suc b)) p q = absurd (omega arith)
or_one (suc zero) zero p q = refl
or_one (suc zero) (suc zero) p q = refl
or_one (suc zero) (suc (suc b)) p q = absurd (omega arith)
or_one (suc (suc a)) b p q = absurd (omega arith)

xor_one : (a b : ℕ) → a < 2 → b < 2 → nat_eq (bit_xor a b) 1 ≡ differ (nat_eq a 1) (nat_eq b 1)
xor_one zero zero p q = refl
xor_one zero (suc zero) p q = refl
xor_one zero (suc (suc b)) p q = absurd (omega arith)
xor_one (suc zero) zero p q = refl
xor_one (suc zero) (suc zero) p q = refl
xor_one (suc zero) (suc (suc b)) p q = absurd (omega arith)
xor_one (suc (suc a)) b p q = absurd (omega arith)

pub bits_of-and : (w x y : ℕ) → bits_of w (bit_and x y) ≡ and_bits (bits_of w x) (bits_of w y)
unfolding bits_of
bits_of-and zero x y = refl
bits_of-and (suc w) x y =
    let low : is_odd (bit_and x y) ≡ (is_odd x && is_odd y) =
    ap (λ r. nat_eq r 1) (and_mod x y 1) ∙ and_one (x % 2) (y % 2) (omega arith) (omega arith) in
    λ i. low i ∷ (ap (bits_of w) (and_shr x y 1) ∙ bits_of-and w (x / 2) (y / 2)) i

pub bits_of-or : (w x y : ℕ) → bits_of w (bit_or x y) ≡ or_bits (bits_of w x) (bits_of w y)
unfolding bits_of
bits_of-or zero x y = refl
bits_of-or (suc w) x y =
    let low : is_odd (bit_or x y) ≡ (is_odd x || is_odd y) =
    ap (λ r. nat_eq r 1) (or_mod x y 1) ∙ or_one (x % 2) (y % 2) (omega arith) (omega arith) in
    λ i. low i ∷ (ap (bits_of w) (or_shr x y 1) ∙ bits_of-or w (x / 2) (y / 2)) i

pub bits_of-xor : (w x y : ℕ) → bits_of w (bit_xor x y) ≡ xor_bits (bits_of w x) (bits_of w y)
unfolding bits_of
bits_of-xor zero x y = refl
bits_of-xor (suc w) x y =
    let low : is_odd (bit_xor x y) ≡ differ (is_odd x) (is_odd y) =
    ap (λ r. nat_eq r 1) (xor_mod x y 1) ∙ xor_one (x % 2) (y % 2) (omega arith) (omega arith) in
    λ i. low i ∷ (ap (bits_of w) (xor_shr x y 1) ∙ bits_of-xor w (x / 2) (y / 2)) i
