-- Numbers and strings: how they are spelled, and what they stand for.
use Rattle.std.specs.Prelude.{ℕ, ◌+◌, ◌*◌, Bool, false, ◌||◌, ◌&&◌, ◌==◌, not, List, [], ◌∷◌, map, drop, count_by, if◌then◌else◌}
use Rattle.std.specs.Char.{is_ascii_digit, is_ascii_hexdigit, digit_value}
use Rattle.sail_lex.specs.declared.literal.Radix.{Radix}
use Rattle.sail_lex.specs.declared.literal.Radix.TheVariants.{Base2, Base16}
use Rattle.sail_lex.specs.Bytes.{is_binary_digit, is_printable, in_binary, in_hexadecimal, first}

-- the digits of a literal of bits
abbrev pub is_digit_of : Radix → ℕ → Bool
is_digit_of Base2 = is_binary_digit
is_digit_of Base16 = is_ascii_hexdigit

-- its digits and `_`
abbrev pub in_digits_of : Radix → ℕ → Bool
in_digits_of Base2 = in_binary
in_digits_of Base16 = in_hexadecimal

-- how many bits a digit has
abbrev pub digit_size : Radix → ℕ
digit_size Base2 = 1
digit_size Base16 = 4

abbrev pub base_of : Radix → ℕ
base_of Base2 = 2
base_of Base16 = 16

-- a number in digits, going on from the number of the digits before; what is no digit has no weight
unfoldable pub value_from : (ℕ → Bool) → ℕ → ℕ → List ℕ → ℕ
value_from is_digit base before [] = before
value_from is_digit base before (b ∷ text) =
    value_from is_digit base (if is_digit b then before * base + digit_value b else before) text

-- what a decimal stands for
abbrev pub decimal_value : List ℕ → ℕ
decimal_value text = value_from is_ascii_digit 10 0 text

-- `0x` begins hexadecimal digits, `0b` binary ones
abbrev pub radix_of : List ℕ → Radix
radix_of text = if first (drop 1 text) == 120 then Base16 else Base2

-- how many bits the digits of a text have: `_` is none
abbrev pub digits_width : Radix → List ℕ → ℕ
digits_width radix text = digit_size radix * count_by (is_digit_of radix) text

-- those bits as a number
abbrev pub digits_bits : Radix → List ℕ → ℕ
digits_bits radix text = value_from (is_digit_of radix) (base_of radix) 0 text

-- how many bits a literal of bits has: those of the digits after its prefix
abbrev pub literal_width : List ℕ → ℕ
literal_width text = digits_width (radix_of text) (drop 2 text)

-- those bits as a number
abbrev pub literal_bits : List ℕ → ℕ
literal_bits text = digits_bits (radix_of text) (drop 2 text)

-- a part of a string: `\` and the byte after it, or one byte
pub data Part : Type 0 where
  Escape : ℕ → Part
  Byte : ℕ → Part

-- a text in parts, taken from the left
unfoldable pub parts : List ℕ → List Part
parts [] = []
parts (b ∷ []) = Byte b ∷ []
parts (b ∷ c ∷ text) = if b == 92 then Escape c ∷ parts text else Byte b ∷ parts (c ∷ text)

-- a string goes on up to a `"` or a line feed that is no part of an escape
abbrev pub is_end : Part → Bool
is_end (Escape c) = false
is_end (Byte b) = b == 34 || b == 10

-- the parts before that
unfoldable pub inside : List Part → List Part
inside [] = []
inside (part ∷ more) = if is_end part then [] else part ∷ inside more

-- the parts of the string whose text is this, with its quote
abbrev pub string_parts : List ℕ → List Part
string_parts text = inside (parts (drop 1 text))

-- the escapes are `\n \t \\ \"`, and the other bytes space to `~`
abbrev pub is_good : Part → Bool
is_good (Escape c) = c == 110 || (c == 116 || (c == 92 || c == 34))
is_good (Byte b) = is_printable b && not (b == 92)

abbrev pub part_size : Part → ℕ
part_size (Escape c) = 2
part_size (Byte b) = 1

-- how many bytes they are as spelled
unfoldable pub size_of : List Part → ℕ
size_of [] = 0
size_of (part ∷ more) = part_size part + size_of more

-- the byte that a part stands for
abbrev pub byte_of : Part → ℕ
byte_of (Escape c) = if c == 110 then 10 else (if c == 116 then 9 else c)
byte_of (Byte b) = b

-- the bytes that a string stands for
abbrev pub string_value : List ℕ → List ℕ
string_value text = map byte_of (string_parts text)
