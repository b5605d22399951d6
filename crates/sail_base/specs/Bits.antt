-- Words of bits as lists, the least significant bit first, and the numbers that they stand for.
use Rattle.std.specs.Bool.{beq}
use Rattle.std.specs.Cmp.Lexicographic.{pointwise}
use Rattle.std.specs.Prelude.{ℕ, zero, suc, ◌+◌, ◌-◌, ◌*◌, ◌/◌, ◌%◌, ◌^◌, Bool, true, false, not, cond, ◌&&◌}
use Rattle.std.specs.Prelude.{◌||◌, nat_eq, nat_lt, List, [], ◌∷◌, ◌++◌, length, take, drop, replicate, map}
use Rattle.std.specs.Prelude.{reverse, slice_index_or, ℤ, pos, negsuc, ◌-ℤ◌, ◌*ℤ◌, int_lt, take_while}

-- ---- bits and numbers

-- whether a number is odd: its lowest bit
abbrev pub is_odd : ℕ → Bool
is_odd n = nat_eq (n % 2) 1

-- the number of one bit
abbrev pub bit_value : Bool → ℕ
bit_value b = cond b 1 0

-- the lowest bits of a number, as many as the width says: the binary digits, and above them zeros
unfoldable pub bits_of : ℕ → ℕ → List Bool
bits_of zero n = []
bits_of (suc width) n = is_odd n ∷ bits_of width (n / 2)

-- the number that a list of bits stands for, read as unsigned
unfoldable pub value_of : List Bool → ℕ
value_of [] = 0
value_of (b ∷ bs) = bit_value b + 2 * value_of bs

-- whether two words are one: as wide, and each bit equal
abbrev pub eq_bits : List Bool → List Bool → Bool
eq_bits = pointwise beq

-- ---- two's complement

-- the bit at the top, which is the sign; a word of no bits has none, and is read as not negative
abbrev pub top_bit : List Bool → Bool
top_bit bs = slice_index_or bs (length bs - 1) false

-- each bit turned
abbrev pub not_bits : List Bool → List Bool
not_bits bs = map not bs

-- the number read as signed: 2 to the width less where the top bit is set
abbrev pub signed_of : List Bool → ℤ
signed_of bs = cond (top_bit bs) (pos (value_of bs) -ℤ pos (2 ^ length bs)) (pos (value_of bs))

-- the lowest bits of an integer: those of -1 - n are the bits of n, each turned
abbrev pub bits_of_int : ℕ → ℤ → List Bool
bits_of_int width (pos n) = bits_of width n
bits_of_int width (negsuc n) = not_bits (bits_of width n)

-- ---- sums, differences and products: the low bits, as many as the first operand has

abbrev pub add_bits : List Bool → List Bool → List Bool
add_bits a b = bits_of (length a) (value_of a + value_of b)

abbrev pub sub_bits : List Bool → List Bool → List Bool
sub_bits a b = bits_of_int (length a) (pos (value_of a) -ℤ pos (value_of b))

abbrev pub mul_bits : List Bool → List Bool → List Bool
mul_bits a b = bits_of (length a) (value_of a * value_of b)

-- the whole product, twice as wide, of two unsigned words, of two signed ones, and of a signed one by an unsigned
-- one: its high half is that of MULHU, MULH and MULHSU (RISC-V unprivileged manual, "Multiplication Operations")
abbrev pub mul_wide_unsigned : List Bool → List Bool → List Bool
mul_wide_unsigned a b = bits_of (2 * length a) (value_of a * value_of b)

abbrev pub mul_wide_signed : List Bool → List Bool → List Bool
mul_wide_signed a b = bits_of_int (2 * length a) (signed_of a *ℤ signed_of b)

abbrev pub mul_wide_mixed : List Bool → List Bool → List Bool
mul_wide_mixed a b = bits_of_int (2 * length a) (signed_of a *ℤ pos (value_of b))

-- ---- bit by bit

-- a function of two bits at each place that both words have
abbrev pub bitwise : (Bool → Bool → Bool) → List Bool → List Bool → List Bool
bitwise f [] ys = []
bitwise f (x ∷ xs) [] = []
bitwise f (x ∷ xs) (y ∷ ys) = f x y ∷ bitwise f xs ys

abbrev pub and_bits : List Bool → List Bool → List Bool
and_bits a b = bitwise ◌&&◌ a b

abbrev pub or_bits : List Bool → List Bool → List Bool
or_bits a b = bitwise ◌||◌ a b

-- exclusive or
abbrev pub differ : Bool → Bool → Bool
differ true b = not b
differ false b = b

abbrev pub xor_bits : List Bool → List Bool → List Bool
xor_bits a b = bitwise differ a b

-- ---- shifts, which keep the width

-- zeros come in below, and what passes the width is let go
abbrev pub shl_bits : List Bool → ℕ → List Bool
shl_bits bs n = take (length bs) (replicate n false ++ bs)

-- zeros come in at the top, and what passes the low end is let go
abbrev pub shr_bits : List Bool → ℕ → List Bool
shr_bits bs n = drop n (bs ++ replicate n false)

-- the top bit comes in at the top
abbrev pub sar_bits : List Bool → ℕ → List Bool
sar_bits bs n = drop n (bs ++ replicate n (top_bit bs))

-- ---- parts and wider words

-- the first word high, the second low
abbrev pub append_bits : List Bool → List Bool → List Bool
append_bits high low = low ++ high

-- the bits from `low` to `high`, both in
abbrev pub slice_bits : List Bool → ℕ → ℕ → List Bool
slice_bits bs high low = take (high - low + 1) (drop low bs)

-- zeros, or the top bit again and again, above the word up to a width
abbrev pub zext_bits : List Bool → ℕ → List Bool
zext_bits bs width = bs ++ replicate (width - length bs) false

abbrev pub sext_bits : List Bool → ℕ → List Bool
sext_bits bs width = bs ++ replicate (width - length bs) (top_bit bs)

-- the word again and again
unfoldable pub copies : ℕ → List Bool → List Bool
copies zero bs = []
copies (suc n) bs = bs ++ copies n bs

-- ---- tests and counts

-- whether the first word's number is below the second's, read as unsigned, and as signed
abbrev pub lt_unsigned : List Bool → List Bool → Bool
lt_unsigned a b = nat_lt (value_of a) (value_of b)

abbrev pub lt_signed : List Bool → List Bool → Bool
lt_signed a b = int_lt (signed_of a) (signed_of b)

-- how many zeros stand above the highest bit that is set; all of them where none is (RISC-V unprivileged manual,
-- extension Zbb, CLZ)
abbrev pub leading_zeros : List Bool → ℕ
leading_zeros bs = length (take_while not (reverse bs))
