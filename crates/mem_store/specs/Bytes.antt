-- Memory as a list of bytes, and words in it, little endian (RISC-V unprivileged manual, "Base Instruction-Length
-- Encoding": the byte at the lowest address has the lowest bits).
use Rattle.std.specs.Prelude.{ℕ, zero, suc, ◌+◌, ◌≤◌, nat_le, Bool, ◌&&◌, List, [], ◌∷◌, ◌++◌, length, take, drop}
use Rattle.sail_base.specs.Bits.{bits_of, value_of}

-- all of the `w` bytes from address `a` on lie among `size` bytes from `base` on
abbrev pub IsMapped : ℕ → ℕ → ℕ → ℕ → Type 0
IsMapped base size w a = (base ≤ a) × (a + w ≤ base + size)

-- the same as a test
abbrev pub is_mapped : ℕ → ℕ → ℕ → ℕ → Bool
is_mapped base size w a = nat_le base a && nat_le (a + w) (base + size)

-- the `w` bytes from the one at index `i` on
abbrev pub span : List ℕ → ℕ → ℕ → List ℕ
span bytes i w = take w (drop i bytes)

-- the bits of bytes, eight each, the first byte lowest
abbrev pub word_of : List ℕ → List Bool
word_of [] = []
word_of (byte ∷ bytes) = bits_of 8 byte ++ word_of bytes

-- the `w` bytes of a word, the lowest first
abbrev pub word_bytes : ℕ → List Bool → List ℕ
word_bytes zero bits = []
word_bytes (suc w) bits = value_of (take 8 bits) ∷ word_bytes w (drop 8 bits)

-- the bytes with others in the place of those from index `i` on, as many
abbrev pub overwritten : List ℕ → ℕ → List ℕ → List ℕ
overwritten bytes i new = take i bytes ++ new ++ drop (i + length new) bytes
