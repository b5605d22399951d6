-- Laws of words as numbers: what each result stands for, read as unsigned and as signed.
use Rattle.std.proofs.Common.{◌≡◌, ℕ, zero, suc, ◌+◌, ◌-◌, ◌*◌, ◌/◌, ◌%◌, ◌^◌, ◌<◌, ◌≤◌, Bool, true, false}
use Rattle.std.proofs.Common.{List, [], ◌∷◌, ◌++◌, length, take, drop, replicate, get_or, refl, sym, ap, ◌∙◌}
use Rattle.std.proofs.Common.{subst, arith, ⊎_elim, pow-suc, div-le_self, ℤ, pos, negsuc, neg_ℤ}
use Rattle.std.proofs.Common.{◌≤ℤ◌}
use Rattle.std.proofs.Common.{◌<ℤ◌, unsigned_abs, length-append, length-drop, get_or-drop, append-nil}
use Rattle.std.proofs.lemmas.Int.{ints}
use Rattle.std.proofs.lemmas.Nat.{shr_below}
use Rattle.std.proofs.lemmas.List.{length-replicate, get_or-append-add, get_or-replicate}
use Rattle.std.specs.Int.{int_div_euclid, int_rem_euclid}
use Rattle.sail_base.specs.Bits.{bits_of, value_of, top_bit, not_bits, signed_of, bits_of_int}
use Rattle.sail_base.specs.Bits.{shl_bits, shr_bits, sar_bits}
use Rattle.sail_base.specs.Bits.{slice_bits, zext_bits, sext_bits}
use Rattle.sail_base.specs.laws.BitLaws.{length-bits_of, value_of-bits_of, value_of-bits_of_fits, value_of-lt}
use Rattle.sail_base.specs.laws.BitLaws.{bits_of-value_of, take-bits_of, drop-bits_of, value_of-append}
use Rattle.sail_base.specs.laws.BitShapes.{shl_bits-numbers, shr_bits-numbers, not_bits-twice}
use Rattle.sail_base.specs.laws.BitSigns.{length-not_bits, value_of-not_bits, top_bit-true, top_bit-false}
use Rattle.sail_base.specs.laws.BitSigns.{signed_of-negative, signed_of-positive, by_top, sar_bits-negative}
use Rattle.sail_base.specs.laws.BitSigns.{sext_bits-negative}
use Rattle.sail_base.specs.laws.WordParts.{length-sar_bits, sar_bits-past}

-- ---- sums, differences and products, modulo 2 to the width

-- the residue of an integer, which is never negative
pub value_of-bits_of_int : (w : ℕ) (z : ℤ) → value_of (bits_of_int w z) ≡ unsigned_abs (int_rem_euclid z (pos (2 ^ w)))
value_of-bits_of_int w (pos n) = value_of-bits_of w n
value_of-bits_of_int w (negsuc n) =
    let t : value_of (not_bits (bits_of w n)) + value_of (bits_of w n) + 1 ≡ 2 ^ w =
    value_of-not_bits (bits_of w n) ∙ ap (λ k. 2 ^ k) (length-bits_of w n) in
    omega (arith, value_of-bits_of w n, t)

-- ---- shifts and parts

pub value_of-shl_bits : (bs : List Bool) (n : ℕ) → value_of (shl_bits bs n) ≡ value_of bs * 2 ^ n % 2 ^ length bs
value_of-shl_bits bs n =
    ap value_of (ap (λ a. shl_bits a n) (sym (bits_of-value_of bs)) ∙ sym (shl_bits-numbers (length bs) (value_of bs) n))
    ∙ value_of-bits_of (length bs) (value_of bs * 2 ^ n)

pub value_of-shr_bits : (bs : List Bool) (n : ℕ) → value_of (shr_bits bs n) ≡ value_of bs / 2 ^ n
value_of-shr_bits bs n =
    ap value_of (ap (λ a. shr_bits a n) (sym (bits_of-value_of bs)) ∙ sym (shr_bits-numbers (length bs) (value_of bs) n (value_of-lt bs)))
    ∙ value_of-bits_of_fits (length bs) (value_of bs / 2 ^ n) (omega (arith, value_of-lt bs, div-le_self (value_of bs) (2 ^ n)))

value_of-take : (n : ℕ) (bs : List Bool) → n ≤ length bs → value_of (take n bs) ≡ value_of bs % 2 ^ n
value_of-take n bs h =
    ap value_of (ap (take n) (sym (bits_of-value_of bs)) ∙ take-bits_of n (length bs) (value_of bs) h) ∙ value_of-bits_of n (value_of bs)

value_of-drop : (n : ℕ) (bs : List Bool) → n ≤ length bs → value_of (drop n bs) ≡ value_of bs / 2 ^ n
value_of-drop n bs h =
    let w : length bs - n + n ≡ length bs = omega arith in
    let v : value_of bs < 2 ^ (length bs - n + n) = subst (λ k. value_of bs < 2 ^ k) (sym w) (value_of-lt bs) in
    ap value_of (ap (drop n) (sym (bits_of-value_of bs)) ∙ drop-bits_of n (length bs) (value_of bs) h)
    ∙ value_of-bits_of_fits (length bs - n) (value_of bs / 2 ^ n) (shr_below (value_of bs) (length bs - n) n v)

pub value_of-slice_bits :
    (bs : List Bool) (hi lo : ℕ) → lo ≤ hi → hi < length bs
    → value_of (slice_bits bs hi lo) ≡ value_of bs / 2 ^ lo % 2 ^ (hi - lo + 1)
value_of-slice_bits bs hi lo p q =
    value_of-take (hi - lo + 1) (drop lo bs) (omega (arith, length-drop lo bs)) ∙ ap (λ n. n % 2 ^ (hi - lo + 1)) (value_of-drop lo bs (omega arith))

-- ---- wider words keep the number

value_of-zeros : (n : ℕ) → value_of (replicate n false) ≡ 0
unfolding value_of
value_of-zeros zero = refl
value_of-zeros (suc n) = omega (arith, value_of-zeros n)

value_of-above : (bs : List Bool) (k : ℕ) → value_of (bs ++ replicate k false) ≡ value_of bs
value_of-above bs k =
    value_of-append bs (replicate k false) ∙ ap (λ n. n * 2 ^ length bs + value_of bs) (value_of-zeros k) ∙ omega arith

pub value_of-zext_bits : (bs : List Bool) (m : ℕ) → value_of (zext_bits bs m) ≡ value_of bs
value_of-zext_bits bs m = value_of-above bs (m - length bs)

top_bit-above : (bs : List Bool) (k : ℕ) → top_bit (bs ++ replicate k (top_bit bs)) ≡ top_bit bs
top_bit-above bs zero = ap top_bit (append-nil bs)
top_bit-above bs (suc k) =
    let b = top_bit bs in
    let l : length (bs ++ replicate (suc k) b) - 1 ≡ length bs + k = omega (arith, length-append bs (replicate (suc k) b), length-replicate (suc k) b) in
    ap (λ n. get_or (bs ++ replicate (suc k) b) n false) l ∙ get_or-append-add bs (replicate (suc k) b) k false
    ∙ get_or-replicate (suc k) k b false (omega arith)

top_bit-sext_bits : (bs : List Bool) (m : ℕ) → top_bit (sext_bits bs m) ≡ top_bit bs
top_bit-sext_bits bs m = top_bit-above bs (m - length bs)

pub signed_of-sext_bits : (bs : List Bool) (m : ℕ) → signed_of (sext_bits bs m) ≡ signed_of bs
signed_of-sext_bits bs m =
    ⊎_elim (λ (h : top_bit bs ≡ true).
    let t : not_bits (sext_bits bs m) ≡ zext_bits (not_bits bs) m =
    ap not_bits (sym (sext_bits-negative bs m h)) ∙ not_bits-twice (zext_bits (not_bits bs) m) in
    signed_of-negative (sext_bits bs m) (top_bit-sext_bits bs m ∙ h)
    ∙ ap negsuc (ap value_of t ∙ value_of-zext_bits (not_bits bs) m) ∙ sym (signed_of-negative bs h))
    (λ (h : top_bit bs ≡ false).
    signed_of-positive (sext_bits bs m) (top_bit-sext_bits bs m ∙ h)
    ∙ ap pos (ap (λ b. value_of (bs ++ replicate (m - length bs) b)) h ∙ value_of-above bs (m - length bs)) ∙ sym (signed_of-positive bs h))
    (by_top (top_bit bs))

top_bit-sar_bits : (bs : List Bool) (n : ℕ) → top_bit (sar_bits bs n) ≡ top_bit bs
top_bit-sar_bits [] n = ap top_bit (sar_bits-past [] n (omega arith))
top_bit-sar_bits (x ∷ xs) n =
    let bs = x ∷ xs in
    let l : n + (length (sar_bits bs n) - 1) ≡ length (bs ++ replicate n (top_bit bs)) - 1 =
    omega (arith, length-sar_bits bs n, length-append bs (replicate n (top_bit bs)), length-replicate n (top_bit bs)) in
    get_or-drop n (bs ++ replicate n (top_bit bs)) (length (sar_bits bs n) - 1) false
    ∙ ap (λ i. get_or (bs ++ replicate n (top_bit bs)) i false) l ∙ top_bit-above bs n

-- a shift down with the sign divides, rounding down
pub signed_of-sar_bits : (bs : List Bool) (n : ℕ) → signed_of (sar_bits bs n) ≡ int_div_euclid (signed_of bs) (pos (2 ^ n))
signed_of-sar_bits bs n =
    ⊎_elim (λ (h : top_bit bs ≡ true).
    let t : not_bits (sar_bits bs n) ≡ shr_bits (not_bits bs) n =
    ap not_bits (sym (sar_bits-negative bs n h)) ∙ not_bits-twice (shr_bits (not_bits bs) n) in
    signed_of-negative (sar_bits bs n) (top_bit-sar_bits bs n ∙ h)
    ∙ ap negsuc (ap value_of t ∙ value_of-shr_bits (not_bits bs) n) ∙ ap (λ z. int_div_euclid z (pos (2 ^ n))) (sym (signed_of-negative bs h)))
    (λ (h : top_bit bs ≡ false).
    signed_of-positive (sar_bits bs n) (top_bit-sar_bits bs n ∙ h)
    ∙ ap pos (ap (λ b. value_of (drop n (bs ++ replicate n b))) h ∙ value_of-shr_bits bs n)
    ∙ ap (λ z. int_div_euclid z (pos (2 ^ n))) (sym (signed_of-positive bs h)))
    (by_top (top_bit bs))

-- ---- signed numbers and their words

pub bits_of_int-signed_of : (bs : List Bool) → bits_of_int (length bs) (signed_of bs) ≡ bs
bits_of_int-signed_of bs =
    ⊎_elim (λ (h : top_bit bs ≡ true).
    let l : length bs ≡ length (not_bits bs) = sym (length-not_bits bs) in
    ap (bits_of_int (length bs)) (signed_of-negative bs h)
    ∙ ap not_bits ((λ i. bits_of (l i) (value_of (not_bits bs))) ∙ bits_of-value_of (not_bits bs)) ∙ not_bits-twice bs)
    (λ (h : top_bit bs ≡ false). ap (bits_of_int (length bs)) (signed_of-positive bs h) ∙ bits_of-value_of bs)
    (by_top (top_bit bs))

-- an integer in the signed range of a width is that of its word
pub signed_of-bits_of_int : (v : ℕ) (z : ℤ) → neg_ℤ (pos (2 ^ v)) ≤ℤ z → z <ℤ pos (2 ^ v) → signed_of (bits_of_int (suc v) z) ≡ z
signed_of-bits_of_int v (pos n) p q =
    let lt : n < 2 ^ v = omega (arith, ints) in
    let e : value_of (bits_of (suc v) n) ≡ n = value_of-bits_of_fits (suc v) n (omega (arith, pow-suc 2 v)) in
    ⊎_elim (λ (h : top_bit (bits_of (suc v) n) ≡ true).
    absurd (omega (arith, top_bit-true (bits_of (suc v) n) h, ap (λ k. 2 ^ k) (length-bits_of (suc v) n), pow-suc 2 v)))
    (λ (h : top_bit (bits_of (suc v) n) ≡ false). signed_of-positive (bits_of (suc v) n) h ∙ ap pos e)
    (by_top (top_bit (bits_of (suc v) n)))
signed_of-bits_of_int v (negsuc n) p q =
    let lt : n < 2 ^ v = omega (arith, ints) in
    let bs = bits_of (suc v) n in
    let e : value_of bs ≡ n = value_of-bits_of_fits (suc v) n (omega (arith, pow-suc 2 v)) in
    let w : 2 ^ length (not_bits bs) ≡ 2 ^ suc v = ap (λ k. 2 ^ k) (length-not_bits bs ∙ length-bits_of (suc v) n) in
    let u : 2 ^ length bs ≡ 2 ^ suc v = ap (λ k. 2 ^ k) (length-bits_of (suc v) n) in
    ⊎_elim (λ (h : top_bit (not_bits bs) ≡ true).
    signed_of-negative (not_bits bs) h ∙ ap negsuc (ap value_of (not_bits-twice bs) ∙ e))
    (λ (h : top_bit (not_bits bs) ≡ false).
    absurd (omega (arith, top_bit-false (not_bits bs) h, value_of-not_bits bs, pow-suc 2 v)))
    (by_top (top_bit (not_bits bs)))
