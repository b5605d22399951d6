-- What the operations on words compute of their numbers, as the lists that contracts see.
use Rattle.std.proofs.Common.{◌≡◌, ℕ, zero, suc, ◌+◌, ◌-◌, ◌*◌, ◌/◌, ◌%◌, ◌^◌, ◌<◌, ◌≤◌, Bool, true, false}
use Rattle.std.proofs.Common.{List, [], length, take, refl, sym, ap, ◌∙◌, subst, arith, pow-add, pow_mono}
use Rattle.std.proofs.Common.{pow_pos, bit_and, bit_or, bit_xor, lt_of_lt_of_le, get_or, mul_comm, pow-suc}
use Rattle.std.proofs.Common.{SFits, ℤ, pos, negsuc, ◌-ℤ◌, ◌*ℤ◌, to_z, of_z, unsigned_abs, lit<, add-one}
use Rattle.std.proofs.Common.{mul-le-mul_right, suc-mul}
use Rattle.std.proofs.lemmas.Nat.{mul-lt, mul-add-lt}
use Rattle.std.proofs.lemmas.List.{nil_from_length}
use Rattle.std.proofs.Math.Nat.{div-eq_of_lt}
use Rattle.std.specs.Int.{w128}
use Rattle.std.proofs.lemmas.Int.{ints, to_z_pos, to_z-of_z, fits_signed_mul}
use Rattle.sail_base.specs.Bits.{bits_of, value_of, is_odd, top_bit, not_bits, and_bits, or_bits, xor_bits}
use Rattle.sail_base.specs.Bits.{mul_wide_unsigned, append_bits, zext_bits, slice_bits, shl_bits, shr_bits}
use Rattle.sail_base.specs.Bits.{copies, signed_of, bits_of_int, mul_wide_signed, mul_wide_mixed}
use Rattle.sail_base.specs.laws.BitLaws.{length-bits_of, value_of-bits_of, value_of-bits_of_fits, bits_of-mod}
use Rattle.sail_base.specs.laws.BitLaws.{mod-pow_twice, value_of-lt, take-bits_of}
use Rattle.sail_base.specs.laws.BitNumbers.{bits_of-and, bits_of-or, bits_of-xor, bits_of-complement, pow_multiple}
use Rattle.sail_base.specs.laws.BitShapes.{get_or-bits_of, append_bits-numbers, zext_bits-numbers}
use Rattle.sail_base.specs.laws.BitShapes.{slice_bits-numbers, shl_bits-numbers, shr_bits-numbers, shl-past}
use Rattle.sail_base.specs.laws.WordParts.{length-copies}
use Rattle.sail_base.specs.laws.BitSigns.{top_bit-none, top_bit-true, top_bit-false, value_of-not_bits}
use Rattle.sail_base.specs.laws.BitSigns.{length-not_bits, signed_of-negative, signed_of-positive}
use Rattle.sail_base.specs.laws.BitSigns.{signed_of-bound}

-- the width of a word is the length of its list
pub width_is : (w x : ℕ) (a : List Bool) → bits_of w x ≡ a → w ≡ length a
width_is w x a e = sym (length-bits_of w x) ∙ ap length e

pub same_width : (w v x y : ℕ) (a b : List Bool) → bits_of w x ≡ a → bits_of v y ≡ b → length a ≡ length b → w ≡ v
same_width w v x y a b e f l = width_is w x a e ∙ l ∙ sym (width_is v y b f)

pub below_same : (w v x y : ℕ) (a b : List Bool) → bits_of w x ≡ a → bits_of v y ≡ b → length a ≡ length b → y < 2 ^ v → y < 2 ^ w
below_same w v x y a b e f l h = subst (λ k. y < 2 ^ k) (sym (same_width w v x y a b e f l)) h

pub and_of :
    (w v x y : ℕ) (a b : List Bool) → bits_of w x ≡ a → bits_of v y ≡ b → length a ≡ length b
    → bits_of w (bit_and x y) ≡ and_bits a b
and_of w v x y a b e f l = bits_of-and w x y ∙ (λ i. and_bits (e i) ((ap (λ k. bits_of k y) (same_width w v x y a b e f l) ∙ f) i))

pub or_of : (w v x y : ℕ) (a b : List Bool) → bits_of w x ≡ a → bits_of v y ≡ b → length a ≡ length b → bits_of w (bit_or x y) ≡ or_bits a b
or_of w v x y a b e f l = bits_of-or w x y ∙ (λ i. or_bits (e i) ((ap (λ k. bits_of k y) (same_width w v x y a b e f l) ∙ f) i))

pub xor_of :
    (w v x y : ℕ) (a b : List Bool) → bits_of w x ≡ a → bits_of v y ≡ b → length a ≡ length b
    → bits_of w (bit_xor x y) ≡ xor_bits a b
xor_of w v x y a b e f l = bits_of-xor w x y ∙ (λ i. xor_bits (e i) ((ap (λ k. bits_of k y) (same_width w v x y a b e f l) ∙ f) i))

pub not_of : (t w x r : ℕ) (a : List Bool) → w ≤ t → x < 2 ^ w → bits_of w x ≡ a → r ≡ (2 ^ t - 1 - x) % 2 ^ w → bits_of w r ≡ not_bits a
not_of t w x r a h p e k =
    let m : 2 ^ w ≤ 2 ^ t = pow_mono h in
    let s : x + (2 ^ t - 1 - x) + 1 ≡ 2 ^ (t - w) * 2 ^ w = omega (arith, pow_multiple t w h) in
    ap (bits_of w) k ∙ bits_of-mod w (2 ^ t - 1 - x) ∙ bits_of-complement w x (2 ^ t - 1 - x) (2 ^ (t - w)) s ∙ ap not_bits e

pub below_pow : (t w x : ℕ) → w ≤ t → x < 2 ^ w → x < 2 ^ t
below_pow t w x h p = lt_of_lt_of_le p (pow_mono h)

-- the product of two words is below 2 to twice the width
pub product_below :
    (w v x y : ℕ) (a b : List Bool) → bits_of w x ≡ a → bits_of v y ≡ b → length a ≡ length b → x < 2 ^ w → y < 2 ^ v
    → x * y < 2 ^ (2 * w)
product_below w v x y a b e f l p q =
    let d : w + w ≡ 2 * w = omega arith in
    subst (λ k. x * y < k) (sym (pow-add 2 w w) ∙ ap (λ k. 2 ^ k) d) (mul-lt x y (2 ^ w) (2 ^ w) p (below_same w v x y a b e f l q))

pub double_below : (w n x : ℕ) (a : List Bool) → bits_of w x ≡ a → length a ≤ n → 2 * w ≤ 2 * n
double_below w n x a e h = let l = width_is w x a e in omega arith

pub product_of :
    (w v x y : ℕ) (a b : List Bool) → bits_of w x ≡ a → bits_of v y ≡ b → x < 2 ^ w → y < 2 ^ v
    → bits_of (2 * w) (x * y) ≡ mul_wide_unsigned a b
product_of w v x y a b e f p q =
    let m : x ≡ value_of a = sym (value_of-bits_of_fits w x p) ∙ ap value_of e in
    let n : y ≡ value_of b = sym (value_of-bits_of_fits v y q) ∙ ap value_of f in
    λ i. bits_of (2 * width_is w x a e i) (m i * n i)

-- the low bits of a word
pub take_of : (w n x r : ℕ) (a : List Bool) → bits_of w x ≡ a → n ≤ length a → r ≡ x % 2 ^ n → bits_of n r ≡ take n a
take_of w n x r a e h k =
    let l = width_is w x a e in
    ap (bits_of n) k ∙ bits_of-mod n x ∙ sym (take-bits_of n w x (omega arith)) ∙ ap (take n) e

pub bit_of : (w x i : ℕ) (a : List Bool) → bits_of w x ≡ a → i < length a → is_odd (x / 2 ^ i) ≡ get_or a i false
bit_of w x i a e h =
    let l = width_is w x a e in
    sym (get_or-bits_of w x i false (omega arith)) ∙ ap (λ s. get_or s i false) e

pub top_of : (w x : ℕ) (a : List Bool) → bits_of w x ≡ a → 0 < w → is_odd (x / 2 ^ (w - 1)) ≡ top_bit a
top_of w x a e h =
    let l : w ≡ length a = width_is w x a e in
    bit_of w x (w - 1) a e (omega arith) ∙ ap (λ n. get_or a (n - 1) false) l

pub top_of_none : (w x : ℕ) (a : List Bool) → bits_of w x ≡ a → w ≤ 0 → false ≡ top_bit a
top_of_none w x a e h =
    let none : w ≡ 0 = omega arith in
    sym (top_bit-none x) ∙ ap (λ k. top_bit (bits_of k x)) (sym none) ∙ ap top_bit e

-- ---- widths and amounts that fit

pub widths_add : (w v x y : ℕ) (a b : List Bool) → bits_of w x ≡ a → bits_of v y ≡ b → length a + length b ≤ 128 → w + v ≤ 128
widths_add w v x y a b e f h = let l = width_is w x a e in let m = width_is v y b f in omega arith

pub append_below : (w v x y : ℕ) → x < 2 ^ w → y < 2 ^ v → x * 2 ^ v + y < 2 ^ (w + v)
append_below w v x y p q =
    subst (λ k. x * 2 ^ v + y < k) (mul_comm (2 ^ v) (2 ^ w) ∙ sym (pow-add 2 w v)) (mul-add-lt x (2 ^ v) y (2 ^ w) p q)

pub append_of :
    (w v x y r : ℕ) (a b : List Bool) → bits_of w x ≡ a → bits_of v y ≡ b → y < 2 ^ v → r ≡ x * 2 ^ v + y
    → bits_of (w + v) r ≡ append_bits a b
append_of w v x y r a b e f q k =
    ap (bits_of (w + v)) k ∙ append_bits-numbers w v x y q ∙ (λ i. append_bits (e i) (f i))

pub wider_below : (w m x : ℕ) (a : List Bool) → bits_of w x ≡ a → length a ≤ m → x < 2 ^ w → x < 2 ^ m
wider_below w m x a e h p = let l = width_is w x a e in below_pow m w x (omega arith) p

pub zext_of : (w m x : ℕ) (a : List Bool) → bits_of w x ≡ a → length a ≤ m → x < 2 ^ w → bits_of m x ≡ zext_bits a m
zext_of w m x a e h p =
    let l = width_is w x a e in
    zext_bits-numbers w m x (omega arith) p ∙ ap (λ b. zext_bits b m) e

pub slice_of :
    (w x hi lo k r : ℕ) (a : List Bool) → bits_of w x ≡ a → lo ≤ hi → hi < length a → k ≡ hi - lo + 1
    → r ≡ x / 2 ^ lo % 2 ^ k → bits_of k r ≡ slice_bits a hi lo
slice_of w x hi lo k r a e p q n s =
    let l = width_is w x a e in
    ap (bits_of k) s ∙ slice_bits-numbers w x hi lo k p (omega arith) n ∙ ap (λ b. slice_bits b hi lo) e

pub shl_of : (t w x by r : ℕ) (a : List Bool) → bits_of w x ≡ a → w ≤ t → r ≡ x * 2 ^ by % 2 ^ t % 2 ^ w → bits_of w r ≡ shl_bits a by
shl_of t w x by r a e h k =
    ap (bits_of w) (k ∙ mod-pow_twice t w (x * 2 ^ by) h) ∙ bits_of-mod w (x * 2 ^ by) ∙ shl_bits-numbers w x by ∙ ap (λ b. shl_bits b by) e

pub shr_of : (w x by r : ℕ) (a : List Bool) → bits_of w x ≡ a → x < 2 ^ w → r ≡ x / 2 ^ by → bits_of w r ≡ shr_bits a by
shr_of w x by r a e h k = ap (bits_of w) k ∙ shr_bits-numbers w x by h ∙ ap (λ b. shr_bits b by) e

-- what is moved past all bits is nothing
pub moved_up_past : (t x n : ℕ) → t ≤ n → 0 ≡ x * 2 ^ n % 2 ^ t
moved_up_past t x n h =
    let z : bits_of t 0 ≡ bits_of t (x * 2 ^ n) = shl-past t x n h in
    sym (value_of-bits_of_fits t 0 (pow_pos t)) ∙ ap value_of z ∙ value_of-bits_of t (x * 2 ^ n)

pub moved_down_past : (t x n : ℕ) → x < 2 ^ t → t ≤ n → 0 ≡ x / 2 ^ n
moved_down_past t x n h p = sym (div-eq_of_lt (below_pow n t x p h))

copies-nil : (n : ℕ) → copies n [] ≡ []
unfolding copies
copies-nil zero = refl
copies-nil (suc n) = copies-nil n

pub copies_of_none : (w x n : ℕ) (a : List Bool) → bits_of w x ≡ a → w ≡ 0 → a ≡ copies n a
copies_of_none w x n a e h =
    let none : a ≡ [] = nil_from_length a (sym (width_is w x a e) ∙ h) in
    none ∙ sym (copies-nil n) ∙ ap (copies n) (sym none)

-- ---- signed numbers

pub value_is : (w x : ℕ) (a : List Bool) → x < 2 ^ w → bits_of w x ≡ a → x ≡ value_of a
value_is w x a p e = sym (value_of-bits_of_fits w x p) ∙ ap value_of e

-- a number of at most 127 bits is an i128
pub short_fits : (w x : ℕ) (a : List Bool) → bits_of w x ≡ a → length a ≤ 127 → x < 2 ^ w → SFits w128 (pos x)
short_fits w x a e h p = let l = width_is w x a e in record { sfits = below_pow 127 w x (omega arith) p }

half_below : (x t : ℕ) → 2 * x < 2 ^ suc t → x < 2 ^ t
half_below x t h = omega (arith, pow-suc 2 t)

-- a number in the lower half of a word is an i128
pub lower_fits : (w x : ℕ) (a : List Bool) → bits_of w x ≡ a → top_bit a ≡ false → w ≤ 128 → x < 2 ^ w → SFits w128 (pos x)
lower_fits w x a e t h p =
    let b : 2 * value_of a < 2 ^ length a = top_bit-false a t in
    let l = width_is w x a e in
    let v = value_is w x a p e in
    let c : 2 * x < 2 ^ w = subst (λ k. 2 * x < 2 ^ k) (sym l) (subst (λ k. 2 * k < 2 ^ length a) (sym v) b) in
    record { sfits = half_below x 127 (below_pow 128 w (2 * x) h c) }

-- the turned number of a negative word is an i128
pub turned_fits : (w x : ℕ) (a : List Bool) → bits_of w x ≡ not_bits a → top_bit a ≡ true → w ≤ 128 → x < 2 ^ w → SFits w128 (pos x)
turned_fits w x a e t h p =
    let l : w ≡ length a = width_is w x (not_bits a) e ∙ length-not_bits a in
    let v : x ≡ value_of (not_bits a) = value_is w x (not_bits a) p e in
    let b : 2 * value_of (not_bits a) < 2 ^ length a = omega (arith, value_of-not_bits a, top_bit-true a t) in
    let c : 2 * x < 2 ^ w = subst (λ k. 2 * x < 2 ^ k) (sym l) (subst (λ k. 2 * k < 2 ^ length a) (sym v) b) in
    record { sfits = half_below x 127 (below_pow 128 w (2 * x) h c) }

pub signed_upper :
    (w x : ℕ) (a : List Bool) → bits_of w x ≡ not_bits a → top_bit a ≡ true → w ≤ 128 → x < 2 ^ w
    → to_z w128 (of_z w128 (negsuc 0 -ℤ to_z w128 x)) ≡ signed_of a
signed_upper w x a e t h p =
    let f = turned_fits w x a e t h p in
    let z : to_z w128 x ≡ pos x = to_z_pos w128 x f.sfits in
    let n : negsuc 0 -ℤ to_z w128 x ≡ negsuc x = ap (λ k. negsuc 0 -ℤ k) z ∙ omega (arith, ints) in
    ap (λ k. to_z w128 (of_z w128 k)) n ∙ to_z-of_z w128 (negsuc x) (record { sfits = f.sfits })
    ∙ ap negsuc (value_is w x (not_bits a) p e) ∙ sym (signed_of-negative a t)

pub signed_lower : (w x : ℕ) (a : List Bool) → bits_of w x ≡ a → top_bit a ≡ false → w ≤ 128 → x < 2 ^ w → to_z w128 x ≡ signed_of a
signed_lower w x a e t h p =
    to_z_pos w128 x (lower_fits w x a e t h p).sfits ∙ ap pos (value_is w x a p e) ∙ sym (signed_of-positive a t)

pub unsigned_of : (w x : ℕ) (a : List Bool) → bits_of w x ≡ a → length a ≤ 127 → x < 2 ^ w → to_z w128 x ≡ pos (value_of a)
unsigned_of w x a e h p = to_z_pos w128 x (short_fits w x a e h p).sfits ∙ ap pos (value_is w x a p e)

-- ---- products of signed words

-- a signed number of at most 64 bits is at most 2 ^ 63 away from 0
short_abs : (a : List Bool) (s : ℤ) → s ≡ signed_of a → length a ≤ 64 → unsigned_abs s ≤ 2 ^ 63
short_abs a s e h =
    let m : 2 ^ length a ≤ 2 ^ 64 = pow_mono h in
    let b : 2 * unsigned_abs s ≤ 2 ^ length a = subst (λ k. 2 * unsigned_abs k ≤ 2 ^ length a) (sym e) (signed_of-bound a) in
    omega arith

short_value : (b : List Bool) (s : ℤ) → s ≡ pos (value_of b) → length b ≤ 64 → unsigned_abs s ≤ 2 ^ 64 - 1
short_value b s e h =
    let m : 2 ^ length b ≤ 2 ^ 64 = pow_mono h in
    subst (λ k. unsigned_abs k ≤ 2 ^ 64 - 1) (sym e) (omega (arith, value_of-lt b))

pub product_fits :
    (s u : ℤ) (m n : ℕ) → SFits w128 s → SFits w128 u → unsigned_abs s ≤ m → unsigned_abs u ≤ n → m * n < 2 ^ 127
    → SFits w128 (to_z w128 (of_z w128 s) *ℤ to_z w128 (of_z w128 u))
product_fits s u m n f g p q r =
    subst (λ k. SFits w128 k) (λ i. sym (to_z-of_z w128 s f) i *ℤ sym (to_z-of_z w128 u g) i) (fits_signed_mul w128 s u m n p q r)

pub product_is :
    (s u x y : ℤ) (m n : ℕ) → SFits w128 s → SFits w128 u → s ≡ x → u ≡ y → unsigned_abs s ≤ m → unsigned_abs u ≤ n
    → m * n < 2 ^ 127 → to_z w128 (of_z w128 (to_z w128 (of_z w128 s) *ℤ to_z w128 (of_z w128 u))) ≡ x *ℤ y
product_is s u x y m n f g e k p q r =
    to_z-of_z w128 (to_z w128 (of_z w128 s) *ℤ to_z w128 (of_z w128 u)) (product_fits s u m n f g p q r)
    ∙ (λ i. to_z-of_z w128 s f i *ℤ to_z-of_z w128 u g i) ∙ (λ i. e i *ℤ k i)

pub signed_product_fits :
    (a b : List Bool) (s u : ℤ) → s ≡ signed_of a → u ≡ signed_of b → length a ≡ length b → length a ≤ 64
    → SFits w128 s → SFits w128 u → SFits w128 (to_z w128 (of_z w128 s) *ℤ to_z w128 (of_z w128 u))
signed_product_fits a b s u e k l h f g =
    product_fits s u (2 ^ 63) (2 ^ 63) f g (short_abs a s e h) (short_abs b u k (omega arith)) (lit< tt)

pub signed_product_of :
    (a b : List Bool) (s u : ℤ) (w : ℕ) → s ≡ signed_of a → u ≡ signed_of b → w ≡ length a → length a ≡ length b
    → length a ≤ 64 → SFits w128 s → SFits w128 u
    → bits_of_int (2 * w) (to_z w128 (of_z w128 (to_z w128 (of_z w128 s) *ℤ to_z w128 (of_z w128 u)))) ≡ mul_wide_signed a b
signed_product_of a b s u w e k n l h f g =
    let p = short_abs a s e h in
    let q = short_abs b u k (omega arith) in
    λ i. bits_of_int (2 * n i) (product_is s u (signed_of a) (signed_of b) (2 ^ 63) (2 ^ 63) f g e k p q (lit< tt) i)

pub mixed_product_fits :
    (a b : List Bool) (s u : ℤ) → s ≡ signed_of a → u ≡ pos (value_of b) → length a ≡ length b → length a ≤ 64
    → SFits w128 s → SFits w128 u → SFits w128 (to_z w128 (of_z w128 s) *ℤ to_z w128 (of_z w128 u))
mixed_product_fits a b s u e k l h f g =
    product_fits s u (2 ^ 63) (2 ^ 64 - 1) f g (short_abs a s e h) (short_value b u k (omega arith)) (lit< tt)

pub mixed_product_of :
    (a b : List Bool) (s u : ℤ) (w : ℕ) → s ≡ signed_of a → u ≡ pos (value_of b) → w ≡ length a → length a ≡ length b
    → length a ≤ 64 → SFits w128 s → SFits w128 u
    → bits_of_int (2 * w) (to_z w128 (of_z w128 (to_z w128 (of_z w128 s) *ℤ to_z w128 (of_z w128 u)))) ≡ mul_wide_mixed a b
mixed_product_of a b s u w e k n l h f g =
    let p = short_abs a s e h in
    let q = short_value b u k (omega arith) in
    λ i. bits_of_int (2 * n i) (product_is s u (signed_of a) (pos (value_of b)) (2 ^ 63) (2 ^ 64 - 1) f g e k p q (lit< tt) i)

-- ---- copies

pub copies-zero : (a : List Bool) → copies 0 a ≡ []
unfolding copies
copies-zero a = refl

pub copies-next : (n : ℕ) (a : List Bool) → append_bits (copies n a) a ≡ copies (n + 1) a
unfolding copies
copies-next n a = ap (λ k. copies k a) (sym (add-one n))

-- one more copy fits where no more than a count are made
pub copies_fit : (n count : ℕ) (a out : List Bool) → out ≡ copies n a → n < count → count * length a ≤ 128 → length out + length a ≤ 128
copies_fit n count a out e h p =
    let l : length out ≡ n * length a = ap length e ∙ length-copies n a in
    let m : suc n * length a ≤ count * length a = mul-le-mul_right (length a) h in
    omega (arith, suc-mul n (length a))
