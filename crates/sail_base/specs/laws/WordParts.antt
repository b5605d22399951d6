-- Laws of words as lists: how wide each result is, single bits, parts of parts, and shifts past the width.
use Rattle.std.proofs.Common.{◌≡◌, ℕ, zero, suc, ◌+◌, ◌-◌, ◌*◌, ◌≤◌, Bool, List, [], ◌∷◌}
use Rattle.std.proofs.Common.{◌++◌, length, take, drop, replicate, refl, sym, ap, ◌∙◌, arith, ℤ, pos}
use Rattle.std.proofs.Common.{negsuc, length-append, length-take, length-drop}
use Rattle.std.proofs.Common.{drop-drop, drop_at, min}
use Rattle.std.proofs.lemmas.List.{length-replicate, drop-replicate}
use Rattle.sail_base.specs.Bits.{bits_of, top_bit, bits_of_int}
use Rattle.sail_base.specs.Bits.{bitwise, sar_bits}
use Rattle.sail_base.specs.Bits.{copies}
use Rattle.sail_base.specs.laws.BitLaws.{length-bits_of}
use Rattle.sail_base.specs.laws.BitSigns.{length-not_bits}

-- ---- how wide the results are

pub length-bits_of_int : (w : ℕ) (z : ℤ) → length (bits_of_int w z) ≡ w
length-bits_of_int w (pos n) = length-bits_of w n
length-bits_of_int w (negsuc n) = length-not_bits (bits_of w n) ∙ length-bits_of w n

-- of two words of one width
pub length-bitwise : (f : Bool → Bool → Bool) (a b : List Bool) → length a ≡ length b → length (bitwise f a b) ≡ length a
length-bitwise f [] b e = refl
length-bitwise f (x ∷ xs) [] e = absurd (omega arith)
length-bitwise f (x ∷ xs) (y ∷ ys) e = ap suc (length-bitwise f xs ys (omega arith))

-- of both shifts down, whatever comes in
length-shift_down : (bs : List Bool) (n : ℕ) (b : Bool) → length (drop n (bs ++ replicate n b)) ≡ length bs
length-shift_down bs n b = omega (arith, length-drop n (bs ++ replicate n b), length-append bs (replicate n b), length-replicate n b)

pub length-sar_bits : (bs : List Bool) (n : ℕ) → length (sar_bits bs n) ≡ length bs
length-sar_bits bs n = length-shift_down bs n (top_bit bs)

pub length-copies : (n : ℕ) (a : List Bool) → length (copies n a) ≡ n * length a
unfolding copies
length-copies zero a = omega arith
length-copies (suc n) a = length-append a (copies n a) ∙ omega (arith, length-copies n a)

-- ---- single bits

-- ---- parts

-- ---- shifts by the width or more

shift_down-past : (bs : List Bool) (n : ℕ) (b : Bool) → length bs ≤ n → drop n (bs ++ replicate n b) ≡ replicate (length bs) b
shift_down-past bs n b h =
    let d : n ≡ length bs + (n - length bs) = omega arith in
    let r : n - (n - length bs) ≡ length bs = omega arith in
    ap (λ k. drop k (bs ++ replicate n b)) d ∙ sym (drop-drop (n - length bs) (length bs) (bs ++ replicate n b))
    ∙ ap (drop (n - length bs)) (drop_at bs (replicate n b) (length bs) refl)
    ∙ drop-replicate (n - length bs) n b ∙ ap (λ k. replicate k b) r

pub sar_bits-past : (bs : List Bool) (n : ℕ) → length bs ≤ n → sar_bits bs n ≡ replicate (length bs) (top_bit bs)
sar_bits-past bs n h = shift_down-past bs n (top_bit bs) h

-- of a front, of what is behind it, and of two words together
pub width-take : (n : ℕ) (bs : List Bool) → length (take n bs) ≡ min n (length bs)
width-take n bs = length-take n bs

pub width-drop : (n : ℕ) (bs : List Bool) → length (drop n bs) ≡ length bs - n
width-drop n bs = length-drop n bs

pub width-append : (a b : List Bool) → length (a ++ b) ≡ length a + length b
width-append a b = length-append a b

pub width-replicate : (n : ℕ) (b : Bool) → length (replicate n b) ≡ n
width-replicate n b = length-replicate n b

-- for a caller that needs the width of a result: `#[tactic(auto, using(sail_base::specs::laws::WordParts::word_widths))]`
pub ruleset word_widths =
    (length-bits_of, length-bits_of_int, length-not_bits, length-bitwise, width-take, width-drop, width-append, width-replicate, length-copies)
