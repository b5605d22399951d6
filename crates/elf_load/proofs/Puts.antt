-- Writes one behind another.
use Rattle.std.proofs.Common.{◌≡◌, ℕ, zero, suc, ◌+◌, ◌-◌, ◌<◌, ◌≤◌, List, [], ◌∷◌, ◌++◌, length, replicate, refl, ap, ◌∙◌, arith, take_all}
use Rattle.sail_base.specs.Bits.{bits_of, value_of}
use Rattle.sail_base.specs.laws.BitLaws.{length-bits_of, value_of-bits_of_fits}
use Rattle.mem_store.specs.Bytes.{overwritten, word_bytes}
use Rattle.mem_store.specs.laws.Overwritten.{length-overwritten, overwritten-more}

-- the byte of a word of one
one_byte : (byte : ℕ) → byte < 256 → word_bytes 1 (bits_of 8 byte) ≡ byte ∷ []
one_byte byte h = ap (λ bits. value_of bits ∷ []) (take_all 8 (bits_of 8 byte) (omega (arith, length-bits_of 8 byte)))
    ∙ ap (λ b. b ∷ []) (value_of-bits_of_fits 8 byte h)

-- one more byte behind others
pub put_more : (old now new word : List ℕ) (start at n byte : ℕ) (bytes : List ℕ) → start ≤ length old → byte < 256 →
    now ≡ overwritten old start bytes → n ≡ length bytes → at ≡ start + n → word ≡ word_bytes 1 (bits_of 8 byte) → new
    ≡ overwritten now at word → new ≡ overwritten old start (bytes ++ byte ∷ [])
put_more old now new word start at n byte bytes h b e k a w f =
    f ∙ (λ i. overwritten (e i) ((a ∙ ap (λ m. start + m) k) i) ((w ∙ one_byte byte b) i)) ∙ overwritten-more old start bytes (byte ∷ []) h

pub replicate-more : (n byte : ℕ) → replicate n byte ++ byte ∷ [] ≡ replicate (suc n) byte
replicate-more zero byte = refl
replicate-more (suc n) byte = ap (λ xs. byte ∷ xs) (replicate-more n byte)

-- a write keeps the count of the bytes
pub put_keeps : (now new word : List ℕ) (at n : ℕ) → new ≡ overwritten now at word → length word ≡ n → at + n ≤ length now → length new ≡ length now
put_keeps now new word at n e k h = ap length e ∙ length-overwritten now at word (omega arith)

-- the bytes of a segment and the zeros behind them are one write
pub put_segment : (old now new bytes : List ℕ) (start from at size : ℕ) → start ≤ length old → now ≡ overwritten old
    start bytes → from ≡ length bytes → at ≡ start → new ≡ overwritten now (at + from) (replicate (size - from) 0) →
    new ≡ overwritten old start (bytes ++ replicate (size - length bytes) 0)
put_segment old now new bytes start from at size h e k a f =
    f ∙ (λ i. overwritten (e i) (a i + k i) (replicate (size - k i) 0)) ∙ overwritten-more old start bytes (replicate (size - length bytes) 0) h
