-- Parts of words, wider words and shifts: lists of bits against numbers.
use Rattle.std.proofs.Common.{◌≡◌, ℕ, zero, suc, ◌+◌, ◌-◌, ◌*◌, ◌/◌, ◌%◌, ◌^◌, ◌<◌, ◌≤◌, Bool, true, false}
use Rattle.std.proofs.Common.{not, List, [], ◌∷◌, ◌++◌, length, take, drop, replicate, refl, sym, ap, ◌∙◌}
use Rattle.std.proofs.Common.{arith, pow_pos, get_or, zero-add, mul_assoc}
use Rattle.std.proofs.lemmas.List.{map-append}
use Rattle.std.proofs.lemmas.Nat.{shr-shr}
use Rattle.sail_base.specs.Bits.{is_odd, bits_of, not_bits, shl_bits, shr_bits, append_bits, slice_bits, zext_bits}
use Rattle.sail_base.specs.laws.BitLaws.{length-bits_of, bits_of-mod, take-bits_of, drop-bits_of, bits_of-append}
use Rattle.sail_base.specs.laws.BitNumbers.{pow_multiple, bits_of-add-multiple}

-- the bits of zero
pub bits_of-zero : (w : ℕ) → bits_of w 0 ≡ replicate w false
unfolding bits_of
bits_of-zero zero = refl
bits_of-zero (suc w) = ap (λ r. false ∷ r) (bits_of-zero w)

-- a number that fits has zeros above its width
pub bits_of-wider : (w k x : ℕ) → x < 2 ^ w → bits_of (w + k) x ≡ bits_of w x ++ replicate k false
bits_of-wider w k x h =
    let e : x ≡ 0 * 2 ^ w + x = omega arith in
    ap (bits_of (w + k)) e ∙ bits_of-append w k x 0 h ∙ ap (λ r. bits_of w x ++ r) (bits_of-zero k)

-- one bit of a number
pub get_or-bits_of : (w x i : ℕ) (d : Bool) → i < w → get_or (bits_of w x) i d ≡ is_odd (x / 2 ^ i)
unfolding bits_of
get_or-bits_of zero x i d h = absurd (omega arith)
get_or-bits_of (suc w) x zero d h = let e : x ≡ x / 2 ^ 0 = omega arith in ap is_odd e
get_or-bits_of (suc w) x (suc i) d h =
    let e : x / 2 / 2 ^ i ≡ x / 2 ^ suc i = shr-shr x 1 i ∙ ap (λ k. x / 2 ^ k) (omega arith) in
    get_or-bits_of w (x / 2) i d (omega arith) ∙ ap is_odd e

pub zext_bits-numbers : (w m x : ℕ) → w ≤ m → x < 2 ^ w → bits_of m x ≡ zext_bits (bits_of w x) m
zext_bits-numbers w m x h p =
    let e : m ≡ w + (m - w) = omega arith in
    let l : m - w ≡ m - length (bits_of w x) = ap (λ n. m - n) (sym (length-bits_of w x)) in
    (λ i. bits_of (e i) x) ∙ bits_of-wider w (m - w) x p ∙ (λ i. bits_of w x ++ replicate (l i) false)

pub append_bits-numbers : (w v x y : ℕ) → y < 2 ^ v → bits_of (w + v) (x * 2 ^ v + y) ≡ append_bits (bits_of w x) (bits_of v y)
append_bits-numbers w v x y h =
    let e : w + v ≡ v + w = omega arith in
    (λ i. bits_of (e i) (x * 2 ^ v + y)) ∙ bits_of-append v w y x h

pub slice_bits-numbers :
    (w x hi lo k : ℕ) → lo ≤ hi → hi < w → k ≡ hi - lo + 1
    → bits_of k (x / 2 ^ lo % 2 ^ k) ≡ slice_bits (bits_of w x) hi lo
slice_bits-numbers w x hi lo k p q e =
    bits_of-mod k (x / 2 ^ lo)
    ∙ sym (take-bits_of k (w - lo) (x / 2 ^ lo) (omega arith))
    ∙ (λ i. take (e i) (sym (drop-bits_of lo w x (omega arith)) i))

-- a shift up by any amount
pub shl_bits-numbers : (w x n : ℕ) → bits_of w (x * 2 ^ n) ≡ shl_bits (bits_of w x) n
shl_bits-numbers w x n =
    let s : x * 2 ^ n ≡ x * 2 ^ n + 0 = omega arith in
    let whole : bits_of (n + w) (x * 2 ^ n) ≡ replicate n false ++ bits_of w x =
    ap (bits_of (n + w)) s ∙ bits_of-append n w 0 x (pow_pos n) ∙ ap (λ r. r ++ bits_of w x) (bits_of-zero n) in
    sym (take-bits_of w (n + w) (x * 2 ^ n) (omega arith)) ∙ (λ i. take (sym (length-bits_of w x) i) (whole i))

-- a shift down by any amount
pub shr_bits-numbers : (w x n : ℕ) → x < 2 ^ w → bits_of w (x / 2 ^ n) ≡ shr_bits (bits_of w x) n
shr_bits-numbers w x n h =
    let d : w ≡ w + n - n = omega arith in
    (λ i. bits_of (d i) (x / 2 ^ n)) ∙ sym (drop-bits_of n (w + n) x (omega arith)) ∙ ap (drop n) (bits_of-wider w n x h)

-- a shift up by the width or more leaves zeros
pub shl-past : (w x n : ℕ) → w ≤ n → bits_of w 0 ≡ bits_of w (x * 2 ^ n)
shl-past w x n h =
    let e : 0 + x * 2 ^ (n - w) * 2 ^ w ≡ x * 2 ^ n =
    zero-add (x * 2 ^ (n - w) * 2 ^ w) ∙ mul_assoc x (2 ^ (n - w)) (2 ^ w) ∙ sym (ap (λ k. x * k) (pow_multiple n w h)) in
    sym (bits_of-add-multiple w 0 (x * 2 ^ (n - w))) ∙ ap (bits_of w) e

-- ---- turned bits
not-not : (b : Bool) → not (not b) ≡ b
not-not true = refl
not-not false = refl

pub not_bits-twice : (bs : List Bool) → not_bits (not_bits bs) ≡ bs
not_bits-twice [] = refl
not_bits-twice (b ∷ bs) = λ i. not-not b i ∷ not_bits-twice bs i

pub not_bits-drop : (n : ℕ) (bs : List Bool) → not_bits (drop n bs) ≡ drop n (not_bits bs)
not_bits-drop zero bs = refl
not_bits-drop (suc n) [] = refl
not_bits-drop (suc n) (b ∷ bs) = not_bits-drop n bs

pub not_bits-replicate : (n : ℕ) (b : Bool) → not_bits (replicate n b) ≡ replicate n (not b)
not_bits-replicate zero b = refl
not_bits-replicate (suc n) b = ap (λ r. not b ∷ r) (not_bits-replicate n b)

-- ones above a word are zeros above the turned word, turned
pub not_bits-append : (k : ℕ) (bs : List Bool) → not_bits (not_bits bs ++ replicate k false) ≡ bs ++ replicate k true
not_bits-append k bs = map-append not (not_bits bs) (replicate k false) ∙ (λ i. not_bits-twice bs i ++ not_bits-replicate k false i)
