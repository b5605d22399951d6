-- The classes of bytes.
use Rattle.std.specs.Prelude.{ℕ, Bool, ◌||◌, ◌&&◌, ◌==◌, nat_le, not, List, slice_index}
use Rattle.std.specs.Char.{is_ascii_alphabetic, is_ascii_digit, is_ascii_hexdigit}
use Rattle.sail_lex.specs.declared.bytes.Class.{Class}
use Rattle.sail_lex.specs.declared.bytes.Class.TheVariants.{Blank, Name, Decimal, Hexadecimal, Binary, Line, Directive, Included}

-- space, tab, carriage return, line feed
abbrev pub is_blank : ℕ → Bool
is_blank b = b == 32 || (b == 9 || (b == 13 || b == 10))

-- a letter or `_`
abbrev pub begins_name : ℕ → Bool
begins_name b = is_ascii_alphabetic b || b == 95

-- a letter, a digit or `_`
abbrev pub in_name : ℕ → Bool
in_name b = begins_name b || is_ascii_digit b

-- 0 or 1
abbrev pub is_binary_digit : ℕ → Bool
is_binary_digit b = b == 48 || b == 49

-- space to `~`
abbrev pub is_printable : ℕ → Bool
is_printable b = nat_le 32 b && nat_le b 126

-- a digit, or `_`, which has no weight
abbrev pub in_decimal : ℕ → Bool
in_decimal b = is_ascii_digit b || b == 95

abbrev pub in_hexadecimal : ℕ → Bool
in_hexadecimal b = is_ascii_hexdigit b || b == 95

abbrev pub in_binary : ℕ → Bool
in_binary b = is_binary_digit b || b == 95

-- not a line feed
abbrev pub in_line : ℕ → Bool
in_line b = not (b == 10)

-- what a directive may hold: space to `~`, tab, carriage return
abbrev pub in_directive : ℕ → Bool
in_directive b = is_printable b || (b == 9 || b == 13)

-- not `>`
abbrev pub in_included : ℕ → Bool
in_included b = not (b == 62)

-- the bytes of a class
abbrev pub belongs : Class → ℕ → Bool
belongs Blank = is_blank
belongs Name = in_name
belongs Decimal = in_decimal
belongs Hexadecimal = in_hexadecimal
belongs Binary = in_binary
belongs Line = in_line
belongs Directive = in_directive
belongs Included = in_included

-- the first byte of a text, 0 where there is none
abbrev pub first : List ℕ → ℕ
first text = slice_index text 0
