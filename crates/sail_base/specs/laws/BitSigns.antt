-- The sign of a word, its signed number, and how many zeros stand at its top.
use Rattle.std.proofs.Common.{◌≡◌, ℕ, zero, suc, ◌+◌, ◌-◌, ◌*◌, ◌/◌, ◌%◌, ◌^◌, ◌<◌, ◌≤◌, Bool, true, false}
use Rattle.std.proofs.Common.{cond, not, List, [], ◌∷◌, ◌++◌, length, drop, replicate, reverse, refl, sym, ap}
use Rattle.std.proofs.Common.{◌∙◌, subst, arith, pow-suc, pow_mono, get_or, ⊎_elim, pos, negsuc, ◌-ℤ◌}
use Rattle.std.proofs.Common.{unsigned_abs, eqb-true, ◌⊎◌, inl, inr, add-one, true≢false, take_while}
use Rattle.std.proofs.lemmas.Int.{ints}
use Rattle.std.proofs.lemmas.Bool.{cases_lt}
use Rattle.std.proofs.lemmas.List.{length-map, reverse-append, replicate_more}
use Rattle.std.proofs.lemmas.List.Sums.{take_while-cons}
use Rattle.std.proofs.Math.Nat.{div-eq_of_lt-le, mul-le-mul_right, div-mul-le_self}
use Rattle.std.specs.Int.Count.{count_leading_zeros, leading_of_zero}
use Rattle.std.proofs.lemmas.Nat.{leading_top}
use Rattle.sail_base.specs.Bits.{is_odd, bit_value, bits_of, value_of, top_bit, not_bits, signed_of}
use Rattle.sail_base.specs.Bits.{leading_zeros, shr_bits, sar_bits, zext_bits, sext_bits}
use Rattle.sail_base.specs.laws.BitLaws.{length-bits_of, value_of-lt, bits_of-value_of, bits_of-append}
use Rattle.sail_base.specs.laws.BitNumbers.{bits_of-add-multiple}
use Rattle.sail_base.specs.laws.BitShapes.{bits_of-zero, get_or-bits_of, bits_of-wider, not_bits-append, not_bits-drop}

pub length-not_bits : (bs : List Bool) → length (not_bits bs) ≡ length bs
length-not_bits bs = length-map bs not

one_of_two : (b : Bool) → bit_value (not b) + bit_value b ≡ 1
one_of_two true = refl
one_of_two false = refl

-- a word and the turned word make 2 to the width, less one
pub value_of-not_bits : (bs : List Bool) → value_of (not_bits bs) + value_of bs + 1 ≡ 2 ^ length bs
unfolding value_of
value_of-not_bits [] = refl
value_of-not_bits (b ∷ bs) = omega (arith, value_of-not_bits bs, one_of_two b, pow-suc 2 (length bs))

-- a number of one bit more than v has its top bit set exactly from 2 ^ v on
upper_half : (v x : ℕ) → is_odd (x / 2 ^ v) ≡ true → 2 ^ v ≤ x
upper_half v x h =
    let o : x / 2 ^ v % 2 ≡ 1 = eqb-true (x / 2 ^ v % 2) 1 h in
    let m : 1 ≤ x / 2 ^ v = omega arith in
    omega (arith, mul-le-mul_right (2 ^ v) m, div-mul-le_self x (2 ^ v))

lower_half : (v x : ℕ) → x < 2 ^ suc v → is_odd (x / 2 ^ v) ≡ false → x < 2 ^ v
lower_half v x p h =
    ⊎_elim (λ (lt : x < 2 ^ v). lt)
    (λ (le : 2 ^ v ≤ x).
    let one : x / 2 ^ v ≡ 1 = div-eq_of_lt-le {k = 1} (2 ^ v) (omega arith) (omega (arith, pow-suc 2 v)) in
    let odd : is_odd (x / 2 ^ v) ≡ true = ap is_odd one in
    absurd (true≢false (sym odd ∙ h)))
    (cases_lt x (2 ^ v))

top_bit-bits_of : (v x : ℕ) → top_bit (bits_of (suc v) x) ≡ is_odd (x / 2 ^ v)
top_bit-bits_of v x =
    let last : length (bits_of (suc v) x) - 1 ≡ v = omega (arith, length-bits_of (suc v) x) in
    ap (λ n. get_or (bits_of (suc v) x) n false) last ∙ get_or-bits_of (suc v) x v false (omega arith)

pub top_bit-none : (x : ℕ) → top_bit (bits_of 0 x) ≡ false
unfolding bits_of
top_bit-none x = refl

top_bit-upper : (w x : ℕ) → x < 2 ^ w → top_bit (bits_of w x) ≡ true → 2 ^ w ≤ 2 * x
top_bit-upper zero x p h = absurd (true≢false (sym h ∙ top_bit-none x))
top_bit-upper (suc v) x p h = omega (arith, pow-suc 2 v, upper_half v x (sym (top_bit-bits_of v x) ∙ h))

top_bit-lower : (w x : ℕ) → x < 2 ^ w → top_bit (bits_of w x) ≡ false → 2 * x < 2 ^ w
top_bit-lower zero x p h = omega arith
top_bit-lower (suc v) x p h = omega (arith, pow-suc 2 v, lower_half v x p (sym (top_bit-bits_of v x) ∙ h))

-- the sign tells the half in which the number lies
pub top_bit-true : (bs : List Bool) → top_bit bs ≡ true → 2 ^ length bs ≤ 2 * value_of bs
top_bit-true bs h = top_bit-upper (length bs) (value_of bs) (value_of-lt bs) (ap top_bit (bits_of-value_of bs) ∙ h)

pub top_bit-false : (bs : List Bool) → top_bit bs ≡ false → 2 * value_of bs < 2 ^ length bs
top_bit-false bs h = top_bit-lower (length bs) (value_of bs) (value_of-lt bs) (ap top_bit (bits_of-value_of bs) ∙ h)

pub signed_of-negative : (bs : List Bool) → top_bit bs ≡ true → signed_of bs ≡ negsuc (value_of (not_bits bs))
signed_of-negative bs h =
    ap (λ t. cond t (pos (value_of bs) -ℤ pos (2 ^ length bs)) (pos (value_of bs))) h
    ∙ omega (arith, ints, value_of-not_bits bs)

pub signed_of-positive : (bs : List Bool) → top_bit bs ≡ false → signed_of bs ≡ pos (value_of bs)
signed_of-positive bs h = ap (λ t. cond t (pos (value_of bs) -ℤ pos (2 ^ length bs)) (pos (value_of bs))) h

pub by_top : (b : Bool) → (b ≡ true) ⊎ (b ≡ false)
by_top true = inl refl
by_top false = inr refl

-- a signed number is at most half of 2 to the width away from 0
pub signed_of-bound : (bs : List Bool) → 2 * unsigned_abs (signed_of bs) ≤ 2 ^ length bs
signed_of-bound bs =
    ⊎_elim (λ (h : top_bit bs ≡ true).
    subst (λ z. 2 * unsigned_abs z ≤ 2 ^ length bs) (sym (signed_of-negative bs h)) (omega (arith, value_of-not_bits bs, top_bit-true bs h)))
    (λ (h : top_bit bs ≡ false).
    subst (λ z. 2 * unsigned_abs z ≤ 2 ^ length bs) (sym (signed_of-positive bs h)) (omega (arith, top_bit-false bs h)))
    (by_top (top_bit bs))

-- ---- the sign that comes in

pub sar_bits-negative : (bs : List Bool) (n : ℕ) → top_bit bs ≡ true → not_bits (shr_bits (not_bits bs) n) ≡ sar_bits bs n
sar_bits-negative bs n h =
    not_bits-drop n (not_bits bs ++ replicate n false) ∙ ap (drop n) (not_bits-append n bs)
    ∙ (λ i. drop n (bs ++ replicate n (sym h i)))

pub sext_bits-negative : (bs : List Bool) (m : ℕ) → top_bit bs ≡ true → not_bits (zext_bits (not_bits bs) m) ≡ sext_bits bs m
sext_bits-negative bs m h =
    not_bits-append (m - length (not_bits bs)) bs
    ∙ (λ i. bs ++ replicate (m - length-not_bits bs i) (sym h i))

-- ---- zeros at the top

reverse-replicate : (k : ℕ) → reverse (replicate k false) ≡ replicate k false
reverse-replicate zero = refl
reverse-replicate (suc k) =
    let more : replicate (k + 1) false ≡ replicate (suc k) false = ap (λ n. replicate n false) (add-one k) in
    reverse-append (false ∷ []) (replicate k false) ∙ ap (λ r. r ++ false ∷ []) (reverse-replicate k) ∙ replicate_more k false ∙ more

zeros_only : (k : ℕ) → length (take_while not (replicate k false)) ≡ k
zeros_only zero = refl
zeros_only (suc k) = ap length (take_while-cons not false (replicate k false)) ∙ ap suc (zeros_only k)

zeros_then : (k : ℕ) (ys : List Bool) → length (take_while not (replicate k false ++ true ∷ ys)) ≡ k
zeros_then zero ys = ap length (take_while-cons not true ys)
zeros_then (suc k) ys = ap length (take_while-cons not false (replicate k false ++ true ∷ ys)) ∙ ap suc (zeros_then k ys)

one_bit : bits_of 1 1 ≡ true ∷ []
unfolding bits_of
one_bit = refl

-- a number from 2 ^ j to below 2 ^ (j + 1) has a one at j
bits_of-top : (j x : ℕ) → 2 ^ j ≤ x → x < 2 ^ suc j → bits_of (suc j) x ≡ bits_of j x ++ true ∷ []
bits_of-top j x p q =
    let low : x - 2 ^ j < 2 ^ j = omega (arith, pow-suc 2 j) in
    let whole : x ≡ 1 * 2 ^ j + (x - 2 ^ j) = omega arith in
    let same : x - 2 ^ j + 1 * 2 ^ j ≡ x = omega arith in
    let w : suc j ≡ j + 1 = omega arith in
    (λ i. bits_of (w i) (whole i)) ∙ bits_of-append j 1 (x - 2 ^ j) 1 low
    ∙ (λ i. (sym (bits_of-add-multiple j (x - 2 ^ j) 1) ∙ ap (bits_of j) same) i ++ one_bit i)

leading_zeros-none : (w : ℕ) → leading_zeros (bits_of w 0) ≡ w
leading_zeros-none w =
    ap leading_zeros (bits_of-zero w) ∙ ap (λ r. length (take_while not r)) (reverse-replicate w) ∙ zeros_only w

leading_zeros-top : (w j x : ℕ) → suc j ≤ w → 2 ^ j ≤ x → x < 2 ^ suc j → leading_zeros (bits_of w x) ≡ w - suc j
leading_zeros-top w j x h p q =
    let e : w ≡ suc j + (w - suc j) = omega arith in
    let parts : bits_of w x ≡ (bits_of j x ++ true ∷ []) ++ replicate (w - suc j) false =
    (λ i. bits_of (e i) x) ∙ bits_of-wider (suc j) (w - suc j) x q ∙ ap (λ r. r ++ replicate (w - suc j) false) (bits_of-top j x p q) in
    let back : reverse (bits_of w x) ≡ replicate (w - suc j) false ++ true ∷ reverse (bits_of j x) =
    ap reverse parts ∙ reverse-append (bits_of j x ++ true ∷ []) (replicate (w - suc j) false)
    ∙ (λ i. reverse-replicate (w - suc j) i ++ reverse-append (bits_of j x) (true ∷ []) i) in
    ap (λ r. length (take_while not r)) back ∙ zeros_then (w - suc j) (reverse (bits_of j x))

place_below : (j w x : ℕ) → 2 ^ j ≤ x → x < 2 ^ w → suc j ≤ w
place_below j w x p q =
    ⊎_elim (λ (lt : j < w). lt)
    (λ (le : w ≤ j). let m : 2 ^ w ≤ 2 ^ j = pow_mono le in absurd (omega arith))
    (cases_lt j w)

-- from the count of zeros above the highest one of a number of t bits
pub leading_zeros-count : (t w x : ℕ) → w ≤ t → x < 2 ^ w → leading_zeros (bits_of w x) ≡ w - (t - count_leading_zeros t x)
leading_zeros-count t w zero h p =
    let e : w ≡ w - (t - count_leading_zeros t 0) = omega (arith, leading_of_zero t) in
    leading_zeros-none w ∙ e
leading_zeros-count t w (suc x) h p =
    let m : 2 ^ w ≤ 2 ^ t = pow_mono h in
    let top = leading_top t (suc x) (omega arith) (omega arith) in
    let e : w - suc top.0 ≡ w - (t - count_leading_zeros t (suc x)) = omega (arith, top.1) in
    leading_zeros-top w top.0 (suc x) (place_below top.0 w (suc x) top.2 p) top.2 top.3 ∙ e

pub count_leading_zeros-ge : (t w x : ℕ) → w ≤ t → x < 2 ^ w → t - count_leading_zeros t x ≤ w
count_leading_zeros-ge t w zero h p = omega (arith, leading_of_zero t)
count_leading_zeros-ge t w (suc x) h p =
    let m : 2 ^ w ≤ 2 ^ t = pow_mono h in
    let top = leading_top t (suc x) (omega arith) (omega arith) in
    omega (arith, top.1, place_below top.0 w (suc x) top.2 p)
