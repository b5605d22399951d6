-- A word's bytes as one number, the lowest byte first, and a write as a list of three parts.
use Rattle.std.proofs.Common.{◌≡◌, ℕ, zero, suc, ◌+◌, ◌-◌, ◌*◌, ◌/◌, ◌%◌, ◌^◌, ◌<◌, ◌≤◌, Bool, List, [], ◌∷◌, ◌++◌}
use Rattle.std.proofs.Common.{length, take, drop, get_or, slice_index, All, refl, sym, ap, ◌∙◌, arith, length-take}
use Rattle.std.proofs.Common.{length-drop, append_assoc, take_all, drop-drop, append-nil, pow-add, pow-suc}
use Rattle.std.proofs.Math.Nat.{div-one, div-div-eq-div-mul}
use Rattle.std.proofs.lemmas.List.{drop_all, get_or-drop}
use Rattle.std.specs.Int.{byte_at, bytes_low_first}
use borrow.Rule.Slice.PartMut.{put_mid}
use Rattle.byteorder.specs.Endian.{little_from}
use Rattle.byteorder.specs.Numbers.{little_from-cons, little_from-take}
use Rattle.sail_base.specs.Bits.{bits_of, value_of}
use Rattle.sail_base.specs.laws.BitLaws.{length-bits_of, value_of-bits_of, value_of-append, bits_of-value_of, value_of-lt, take-bits_of, drop-bits_of}
use Rattle.mem_store.specs.Bytes.{span, word_of, word_bytes, overwritten}
use Rattle.mem_store.specs.laws.AreBytes.{AreBytes, AreBytes-drop, AreBytes-take, All-AreBytes}
use Rattle.mem_store.specs.laws.Words.{length-word_of}

-- the number of a word is that of its bytes
value_of-word_of : (bytes : List ℕ) → AreBytes bytes → value_of (word_of bytes) ≡ little_from 0 (length bytes) bytes
unfolding value_of
value_of-word_of [] fits = refl
value_of-word_of (byte ∷ bytes) fits =
    let low : byte < 256 = fits 0 in
    let rest = value_of-word_of bytes (λ k. fits (suc k)) in
    let moved = little_from-cons 0 (length bytes) byte bytes in
    omega (
      arith,
      value_of-append (bits_of 8 byte) (word_of bytes),
      ap (λ n. value_of (word_of bytes) * 2 ^ n)
          (length-bits_of 8 byte),
      value_of-bits_of 8 byte,
      rest,
      moved,
    )

pub span_fits : (bytes : List ℕ) (at w : ℕ) → AreBytes bytes → All (λ byte. byte < 256) (span bytes at w)
span_fits bytes at w fits = All-AreBytes (take w (drop at bytes)) (AreBytes-take w (drop at bytes) (AreBytes-drop at bytes fits))

length-span : (bytes : List ℕ) (at w : ℕ) → at + w ≤ length bytes → length (span bytes at w) ≡ w
length-span bytes at w h = omega (arith, length-take w (drop at bytes), length-drop at bytes)

-- the number that is read is that of the word
pub read_number : (bytes : List ℕ) (at w : ℕ) → AreBytes bytes → at + w ≤ length bytes → little_from 0 w
    (take (length bytes - at) (drop at bytes)) ≡ value_of (word_of (span bytes at w))
read_number bytes at w fits h =
    let n : length (span bytes at w) ≡ w = length-span bytes at w h in
    little_from-take 0 w (length bytes - at) (drop at bytes) (omega arith)
    ∙ sym (little_from-take 0 w w (drop at bytes) (omega arith))
    ∙ sym (value_of-word_of (span bytes at w) (AreBytes-take w (drop at bytes) (AreBytes-drop at bytes fits)) ∙ ap (λ k. little_from 0 k (span bytes at w)) n)

-- the bits of that number are the word
pub read_word : (bytes : List ℕ) (at w number : ℕ) → at + w ≤ length bytes → number ≡ value_of
    (word_of (span bytes at w)) → bits_of (8 * w) number ≡ word_of (span bytes at w)
read_word bytes at w number h e =
    let n : length (word_of (span bytes at w)) ≡ 8 * w = length-word_of (span bytes at w) ∙ ap (λ k. 8 * k) (length-span bytes at w h) in
    (λ i. bits_of (sym n i) (e i)) ∙ bits_of-value_of (word_of (span bytes at w))

pub read_below : (bytes : List ℕ) (at w number : ℕ) → at + w ≤ length bytes → number ≡ value_of (word_of (span bytes at w)) → number < 2 ^ (8 * w)
read_below bytes at w number h e =
    let n : length (word_of (span bytes at w)) ≡ 8 * w = length-word_of (span bytes at w) ∙ ap (λ k. 8 * k) (length-span bytes at w h) in
    rw (e, ← n) (value_of-lt (word_of (span bytes at w)))

-- two ways to write the size of bytes
pub bytes_of_bits : (w : ℕ) → 256 ^ w ≡ 2 ^ (8 * w)
bytes_of_bits zero = refl
bytes_of_bits (suc w) =
    let e : 8 * suc w ≡ 8 * w + 8 = omega arith in
    omega (arith, pow-suc 256 w, bytes_of_bits w, pow-add 2 (8 * w) 8, ap (λ n. 2 ^ n) e)

byte_at_shift : (j number : ℕ) → byte_at j number ≡ number / 256 ^ j % 256
byte_at_shift zero number = ap (λ n. n % 256) (sym (div-one number))
byte_at_shift (suc j) number = refl

-- the bytes that are written are the word's
low_first : (w j number : ℕ) → bytes_low_first j w number ≡ word_bytes w (bits_of (8 * w) (number / 256 ^ j))
low_first zero j number = refl
low_first (suc w) j number =
    let n = number / 256 ^ j in
    let e : 8 * suc w - 8 ≡ 8 * w = omega arith in
    let low : value_of (take 8 (bits_of (8 * suc w) n)) ≡ byte_at j number =
    ap value_of (take-bits_of 8 (8 * suc w) n (omega arith)) ∙ value_of-bits_of 8 n ∙ sym (byte_at_shift j number) in
    let shift : n / 2 ^ 8 ≡ number / 256 ^ suc j = div-div-eq-div-mul number (256 ^ j) 256 ∙ ap (λ p. number / p) (omega (arith, pow-suc 256 j)) in
    let high : drop 8 (bits_of (8 * suc w) n) ≡ bits_of (8 * w) (number / 256 ^ suc j) =
    drop-bits_of 8 (8 * suc w) n (omega arith) ∙ (λ i. bits_of (e i) (shift i)) in
    λ i. sym low i ∷ (low_first w (suc j) number ∙ ap (word_bytes w) (sym high)) i

pub written_bytes : (w : ℕ) (v : List Bool) → length v ≡ 8 * w → bytes_low_first 0 w (value_of v) ≡ word_bytes w v
written_bytes w v h = low_first w 0 (value_of v) ∙ ap (word_bytes w) ((λ i. bits_of (sym h i) (div-one (value_of v) i)) ∙ bits_of-value_of v)

-- bytes put at the front of what stands from an index on
pub put_bytes : (bytes new raw part : List ℕ) (at w : ℕ) → at + w ≤ length bytes → length new ≡ w → raw ≡ new → part ≡
    raw ++ drop w (take (length bytes - at) (drop at bytes)) → put_mid at (length bytes - at) bytes part ≡ overwritten
    bytes at new
put_bytes bytes new raw part at w h n r e =
    let rest : drop (length bytes - at) (drop at bytes) ≡ [] = drop_all (length bytes - at) (drop at bytes) (omega (arith, length-drop at bytes)) in
    let whole : take (length bytes - at) (drop at bytes) ≡ drop at bytes = take_all (length bytes - at) (drop at bytes) (omega (arith, length-drop at bytes)) in
    let behind : drop w (drop at bytes) ≡ drop (at + length new) bytes = drop-drop w at bytes ∙ ap (λ n. drop n bytes) (omega arith) in
    rw (rest, append-nil, e, r, whole, behind) (sym (append_assoc (take at bytes) new (drop (at + length new) bytes)))
