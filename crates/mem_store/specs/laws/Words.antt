-- How wide a word is, how many bytes it has, and that bytes and word give each other back.
use Rattle.std.proofs.Common.{◌≡◌, ℕ, zero, suc, ◌*◌, ◌<◌, Bool, List, [], ◌∷◌, ◌++◌, length, take, drop, slice_index}
use Rattle.std.proofs.Common.{refl, sym, ap, ◌∙◌, arith, length-append, length-take, length-drop, take_at, drop_at}
use Rattle.std.proofs.Common.{take-append-drop}
use Rattle.sail_base.specs.Bits.{bits_of, value_of}
use Rattle.sail_base.specs.laws.BitLaws.{length-bits_of, value_of-bits_of_fits, bits_of-value_of}
use Rattle.mem_store.specs.Bytes.{word_of, word_bytes}

pub length-word_of : (bytes : List ℕ) → length (word_of bytes) ≡ 8 * length bytes
length-word_of [] = refl
length-word_of (byte ∷ bytes) = omega (arith, length-append (bits_of 8 byte) (word_of bytes), length-bits_of 8 byte, length-word_of bytes)

pub length-word_bytes : (w : ℕ) (bits : List Bool) → length (word_bytes w bits) ≡ w
length-word_bytes zero bits = refl
length-word_bytes (suc w) bits = ap suc (length-word_bytes w (drop 8 bits))

-- the bytes of the word that bytes make are these
pub word_bytes-word_of : (bytes : List ℕ) → ((k : ℕ) → slice_index bytes k < 256) → word_bytes (length bytes) (word_of bytes) ≡ bytes
word_bytes-word_of [] fits = refl
word_bytes-word_of (byte ∷ bytes) fits =
    let low : byte < 256 = fits 0 in
    let front : take 8 (bits_of 8 byte ++ word_of bytes) ≡ bits_of 8 byte = take_at (bits_of 8 byte) (word_of bytes) 8 (length-bits_of 8 byte) in
    let behind : drop 8 (bits_of 8 byte ++ word_of bytes) ≡ word_of bytes = drop_at (bits_of 8 byte) (word_of bytes) 8 (length-bits_of 8 byte) in
    λ i. (ap value_of front ∙ value_of-bits_of_fits 8 byte low) i ∷ (ap (word_bytes (length bytes)) behind ∙ word_bytes-word_of bytes (λ k. fits (suc k))) i

-- the word that the bytes of a word make is this word
pub word_of-word_bytes : (w : ℕ) (bits : List Bool) → length bits ≡ 8 * w → word_of (word_bytes w bits) ≡ bits
word_of-word_bytes zero [] h = refl
word_of-word_bytes zero (bit ∷ bits) h = absurd (omega arith)
word_of-word_bytes (suc w) bits h =
    let n : length (take 8 bits) ≡ 8 = omega (arith, length-take 8 bits) in
    let front : bits_of 8 (value_of (take 8 bits)) ≡ take 8 bits = (λ i. bits_of (sym n i) (value_of (take 8 bits))) ∙ bits_of-value_of (take 8 bits) in
    (λ i. front i ++ word_of-word_bytes w (drop 8 bits) (omega (arith, length-drop 8 bits)) i) ∙ take-append-drop 8 bits
