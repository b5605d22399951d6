-- The laws that tie lists of bits to numbers.
use Rattle.std.proofs.Common.{◌≡◌, ℕ, zero, suc, ◌+◌, ◌-◌, ◌*◌, ◌/◌, ◌%◌, ◌^◌, ◌<◌, ◌≤◌, Bool, true, false}
use Rattle.std.proofs.Common.{cond, nat_eq, List, [], ◌∷◌, ◌++◌, length, take, drop, refl, sym, ap, ◌∙◌}
use Rattle.std.proofs.Common.{subst, arith, pow-suc, add-one, mod-eq_of_lt, take-append-drop, Decides}
use Rattle.std.proofs.Common.{◌&&◌}
use Rattle.std.proofs.lemmas.Nat.{mod-pow-add, shr-shr, shr_high, mod_low}
use Rattle.std.proofs.lemmas.Bool.Decides.{same_from_decides, Decides-like, Decides-and, Decides-eqb}
use Rattle.std.proofs.Math.Pow.{mod-mod-pow}
use Rattle.std.specs.Cmp.{IsEquivalence, booleans_Decides, bool_eq_equiv}
use Rattle.std.specs.Cmp.Lexicographic.{lists_equiv, pointwise_decides}
use Rattle.sail_base.specs.Bits.{bits_of, value_of, is_odd, bit_value, add_bits, eq_bits}

pub length-bits_of : (w n : ℕ) → length (bits_of w n) ≡ w
unfolding bits_of
length-bits_of zero n = refl
length-bits_of (suc w) n = ap suc (length-bits_of w (n / 2))

below_two : (r : ℕ) → r < 2 → cond (nat_eq r 1) 1 0 ≡ r
below_two zero h = refl
below_two (suc zero) h = refl
below_two (suc (suc r)) h = absurd (omega arith)

-- a lowest bit is the remainder by 2
bit_value-is_odd : (n : ℕ) → bit_value (is_odd n) ≡ n % 2
bit_value-is_odd n = below_two (n % 2) (omega arith)

is_odd-bit_value : (b : Bool) (n : ℕ) → is_odd (bit_value b + 2 * n) ≡ b
is_odd-bit_value true n = let e : (1 + 2 * n) % 2 ≡ 1 = omega arith in rw e
is_odd-bit_value false n = let e : (0 + 2 * n) % 2 ≡ 0 = omega arith in rw e

half-bit_value : (b : Bool) (n : ℕ) → (bit_value b + 2 * n) / 2 ≡ n
half-bit_value true n = omega arith
half-bit_value false n = omega arith

mod-pow-suc : (w n : ℕ) → n % 2 ^ suc w ≡ n % 2 + 2 * (n / 2 % 2 ^ w)
mod-pow-suc w n = rw (← add-one w) (omega (arith, mod-pow-add n w 1))

pub value_of-bits_of : (w n : ℕ) → value_of (bits_of w n) ≡ n % 2 ^ w
unfolding bits_of value_of
value_of-bits_of zero n = omega arith
value_of-bits_of (suc w) n = omega (arith, mod-pow-suc w n, bit_value-is_odd n, value_of-bits_of w (n / 2))

bit_value-lt : (b : Bool) → bit_value b < 2
bit_value-lt true = omega arith
bit_value-lt false = omega arith

pub value_of-lt : (l : List Bool) → value_of l < 2 ^ length l
unfolding value_of
value_of-lt [] = omega arith
value_of-lt (b ∷ bs) = omega (arith, bit_value-lt b, value_of-lt bs, pow-suc 2 (length bs))

pub bits_of-value_of : (l : List Bool) → bits_of (length l) (value_of l) ≡ l
unfolding bits_of value_of
bits_of-value_of [] = refl
bits_of-value_of (b ∷ bs) = λ i. is_odd-bit_value b (value_of bs) i ∷ (ap (bits_of (length bs)) (half-bit_value b (value_of bs)) ∙ bits_of-value_of bs) i

-- a number that fits its width is given back
pub value_of-bits_of_fits : (w n : ℕ) → n < 2 ^ w → value_of (bits_of w n) ≡ n
value_of-bits_of_fits w n h = value_of-bits_of w n ∙ mod-eq_of_lt h

pub bits_of-mod : (w n : ℕ) → bits_of w (n % 2 ^ w) ≡ bits_of w n
bits_of-mod w n = rw (← value_of-bits_of w n) (let e = bits_of-value_of (bits_of w n) in rw (length-bits_of w n) at e)

-- the front of a number's bits are its low bits
pub take-bits_of : (n w x : ℕ) → n ≤ w → take n (bits_of w x) ≡ bits_of n x
unfolding bits_of
take-bits_of zero w x h = refl
take-bits_of (suc n) zero x h = absurd (omega arith)
take-bits_of (suc n) (suc w) x h = ap (λ r. is_odd x ∷ r) (take-bits_of n w (x / 2) (omega arith))

-- what is behind the front are the bits of the number shifted down
pub drop-bits_of : (n w x : ℕ) → n ≤ w → drop n (bits_of w x) ≡ bits_of (w - n) (x / 2 ^ n)
unfolding bits_of
drop-bits_of zero w x h = let e : x ≡ x / 2 ^ 0 = omega arith in let d : w ≡ w - 0 = omega arith in λ i. bits_of (d i) (e i)
drop-bits_of (suc n) zero x h = absurd (omega arith)
drop-bits_of (suc n) (suc w) x h =
    let e : x / 2 / 2 ^ n ≡ x / 2 ^ suc n = shr-shr x 1 n ∙ ap (λ k. x / 2 ^ k) (omega arith) in
    let d : w - n ≡ suc w - suc n = omega arith in
    drop-bits_of n w (x / 2) (omega arith) ∙ (λ i. bits_of (d i) (e i))

pub double : (v n : ℕ) → v * 2 ^ suc n ≡ 2 * (v * 2 ^ n)
double v n = rw (pow-suc 2 n) (omega arith)

-- the number of two lists, one behind the other
pub value_of-append : (a b : List Bool) → value_of (a ++ b) ≡ value_of b * 2 ^ length a + value_of a
unfolding value_of
value_of-append [] b = omega arith
value_of-append (x ∷ xs) b = omega (arith, value_of-append xs b, double (value_of b) (length xs))

-- the bits of a number in two parts are the low part's and behind them the high part's
pub bits_of-append : (n m lo hi : ℕ) → lo < 2 ^ n → bits_of (n + m) (hi * 2 ^ n + lo) ≡ bits_of n lo ++ bits_of m hi
bits_of-append n m lo hi h =
    let l : length (bits_of (n + m) (hi * 2 ^ n + lo)) ≡ n + m = length-bits_of (n + m) (hi * 2 ^ n + lo) in
    let low : take n (bits_of (n + m) (hi * 2 ^ n + lo)) ≡ bits_of n lo =
    take-bits_of n (n + m) (hi * 2 ^ n + lo) (omega arith) ∙ sym (bits_of-mod n (hi * 2 ^ n + lo)) ∙ ap (bits_of n) (mod_low hi n lo h) in
    let d : n + m - n ≡ m = omega arith in
    let high : drop n (bits_of (n + m) (hi * 2 ^ n + lo)) ≡ bits_of m hi =
    drop-bits_of n (n + m) (hi * 2 ^ n + lo) (omega arith) ∙ (λ i. bits_of (d i) (shr_high hi n lo h i)) in
    sym (take-append-drop n (bits_of (n + m) (hi * 2 ^ n + lo))) ∙ (λ i. low i ++ high i)

-- a shorter front of the low bits
pub mod-pow_twice : (t w n : ℕ) → w ≤ t → n % 2 ^ t % 2 ^ w ≡ n % 2 ^ w
mod-pow_twice t w n h =
    let e : t - w + w ≡ t = omega arith in
    subst (λ k. n % 2 ^ k % 2 ^ w ≡ n % 2 ^ w) e (mod-mod-pow n (t - w) w)

-- `==` on words decides whether their lists are equal
pub Decides-eq_bits : (a b : List Bool) → Decides (eq_bits a b) (a ≡ b)
Decides-eq_bits = pointwise_decides booleans_Decides

-- for a caller that compares words: `#[tactic(auto, using(sail_base::specs::laws::BitLaws::word_equality))]`
pub ruleset word_equality = (Decides-eq_bits)

pub eq_bits-equiv : IsEquivalence eq_bits
eq_bits-equiv = lists_equiv bool_eq_equiv

-- words are equal where the widths and the numbers are
pub eq_bits-numbers : (w v x y : ℕ) → x < 2 ^ w → y < 2 ^ v → (nat_eq w v && nat_eq x y) ≡ eq_bits (bits_of w x) (bits_of v y)
eq_bits-numbers w v x y p q =
    let there : (w ≡ v) × (x ≡ y) → bits_of w x ≡ bits_of v y = λ h i. bits_of (h.0 i) (h.1 i) in
    let back : bits_of w x ≡ bits_of v y → (w ≡ v) × (x ≡ y) = λ h. (
      sym (length-bits_of w x) ∙ ap length h ∙ length-bits_of v y,
      sym (value_of-bits_of_fits w x p) ∙ ap value_of h ∙ value_of-bits_of_fits v y q,
    ) in
    same_from_decides (nat_eq w v && nat_eq x y) (eq_bits (bits_of w x) (bits_of v y))
    (Decides-like (nat_eq w v && nat_eq x y) there back (Decides-and (nat_eq w v) (nat_eq x y) (Decides-eqb w v) (Decides-eqb x y)))
    (Decides-eq_bits (bits_of w x) (bits_of v y))

-- the low bits of a sum that was taken at more bits
pub add_bits-numbers :
    (t w v x y r : ℕ) → w ≤ t → x < 2 ^ w → y < 2 ^ v → r ≡ (x + y) % 2 ^ t % 2 ^ w
    → bits_of w r ≡ add_bits (bits_of w x) (bits_of v y)
add_bits-numbers t w v x y r h p q e =
    ap (bits_of w) (e ∙ mod-pow_twice t w (x + y) h) ∙ bits_of-mod w (x + y)
    ∙ (λ i. bits_of (sym (length-bits_of w x) i) (sym (value_of-bits_of_fits w x p) i + sym (value_of-bits_of_fits v y q) i))
