-- What a text begins with: the longest spelling there, or why there is none.
use Rattle.std.specs.Prelude.{ℕ, ◌+◌, ◌*◌, ◌^◌, Bool, ◌||◌, ◌&&◌, ◌==◌, not, nat_eq, nat_lt, List, length, take, drop, count_by, Option, Some, None}
use Rattle.std.specs.Prelude.{codes, if◌then◌else◌}
use Rattle.std.specs.List.{prefix_len, list_all, starts_with}
use Rattle.std.specs.Char.{is_ascii_alphabetic, is_ascii_digit}
use Rattle.sail_lex.specs.declared.kind.TokenKind.{TokenKind}
use Rattle.sail_lex.specs.declared.kind.TokenKind.TheVariants.{TypeVariable, Decimal, Hexadecimal, Binary, StringLiteral, LeftOut}
use Rattle.sail_lex.specs.declared.literal.Radix.{Radix}
use Rattle.sail_lex.specs.declared.literal.Radix.TheVariants.{Base2, Base16}
use Rattle.sail_lex.specs.declared.front.Fault.TheVariants.{BadByte, BadLiteral, Unclosed, NumberTooLarge}
use Rattle.sail_lex.specs.declared.front.Front.{Front}
use Rattle.sail_lex.specs.declared.front.Front.TheVariants.{Skip, Comment, Token, Refused}
use Rattle.sail_lex.specs.Bytes.{is_blank, begins_name, in_name, in_decimal, in_line, in_directive, in_included, first}
use Rattle.sail_lex.specs.Literal.{is_digit_of, in_digits_of, digit_size, decimal_value, string_parts, is_good, size_of}
use Rattle.sail_lex.specs.Lookup.{kind_of_name, longest_in}
use Rattle.sail_lex.specs.Tables.{symbols}

-- a name: the longest run of its bytes, at most 255
unfoldable pub name_front : List ℕ → Front
name_front text =
    let n = prefix_len in_name text in
    if nat_lt 255 n then Refused BadLiteral 0 else Token (kind_of_name (take n text)) n

-- a type variable: `'` and a name of at most 255 bytes
unfoldable pub type_variable_front : List ℕ → Front
type_variable_front text =
    let n = prefix_len in_name (drop 1 text) in
    if not (begins_name (first (drop 1 text))) then Refused (BadByte (first text)) 0
    else (if nat_lt 255 n then Refused BadLiteral 0
    else Token TypeVariable (n + 1))

-- a decimal: the longest run of digits and `_`, with no letter behind it, at most 2 to the 126th
unfoldable pub decimal_front : List ℕ → Front
decimal_front text =
    let n = prefix_len in_decimal text in
    if is_ascii_alphabetic (first (drop n text)) then Refused BadLiteral 0
    else (if nat_lt (2 ^ 126) (decimal_value (take n text)) then Refused NumberTooLarge 0
    else Token Decimal n)

-- the kind of a literal of bits
abbrev pub kind_of_bits : Radix → TokenKind
kind_of_bits Base2 = Binary
kind_of_bits Base16 = Hexadecimal

-- a literal of bits: its prefix and the longest run of digits and `_`, at least one digit among them,
-- with no letter behind it, at most 128 bits
unfoldable pub bits_front : Radix → List ℕ → Front
bits_front radix text =
    let n = prefix_len (in_digits_of radix) (drop 2 text) in
    let digits = count_by (is_digit_of radix) (take n (drop 2 text)) in
    if digits == 0 || is_ascii_alphabetic (first (drop n (drop 2 text))) then Refused BadLiteral 0
    else (if nat_lt 128 (digit_size radix * digits) then Refused NumberTooLarge 0
    else Token (kind_of_bits radix) (n + 2))

-- a number, by its prefix
unfoldable pub number_front : List ℕ → Front
number_front text =
    if starts_with nat_eq text (codes "0x") then bits_front Base16 text
    else (if starts_with nat_eq text (codes "0b") then bits_front Base2 text
    else decimal_front text)

-- a string: its parts between two quotes, all good, at most 4,096 bytes
unfoldable pub string_front : List ℕ → Front
string_front text =
    let n = size_of (string_parts text) in
    if not (list_all is_good (string_parts text)) || nat_lt 4096 n then Refused BadLiteral 0
    else (if first (drop (n + 1) text) == 34 then Token StringLiteral (n + 2)
    else Refused Unclosed 0)

-- what is left of a text after its first bytes of a class
abbrev pub past : (ℕ → Bool) → List ℕ → List ℕ
past p text = drop (prefix_len p text) text

-- `$include`, blanks or none, `<`, anything but `>`, `>`, and blanks up to the end
unfoldable pub is_include : List ℕ → Bool
is_include line =
    let name = past is_blank (drop 8 line) in
    let end = past in_included (drop 1 name) in
    starts_with nat_eq line (codes "$include") && (first name == 60 && (first end == 62 && list_all is_blank (drop 1 end)))

-- a line as far as its end: an include is passed over, and any other directive is left out
unfoldable pub directive_front : List ℕ → Front
directive_front text =
    let n = prefix_len in_line text in
    let good = prefix_len in_directive (take n text) in
    if nat_lt good n then Refused (BadByte (first (drop good text))) good
    else (if is_include (take n text) then Skip n
    else Token LeftOut n)

-- a symbol: the longest of the table that begins the text
abbrev pub front_of_symbol : List ℕ → Option (List ℕ × TokenKind) → Front
front_of_symbol text None = Refused (BadByte (first text)) 0
front_of_symbol text (Some symbol) = Token symbol.1 (length symbol.0)

unfoldable pub symbol_front : List ℕ → Front
symbol_front text = front_of_symbol text (longest_in symbols text)

-- `//` to the line's end is passed over, and `/*` begins a comment that nests
unfoldable pub other_front : List ℕ → Front
other_front text =
    if starts_with nat_eq text (codes "//") then Skip (prefix_len in_line text)
    else (if starts_with nat_eq text (codes "/*") then Comment
    else symbol_front text)

-- what a text that isn't empty begins with, by its first byte
unfoldable pub front : List ℕ → Front
front text =
    if is_blank (first text) then Skip (prefix_len is_blank text)
    else (if begins_name (first text) then name_front text
    else (if is_ascii_digit (first text) then number_front text
    else (if first text == 39 then type_variable_front text
    else (if first text == 34 then string_front text
    else (if first text == 36 then directive_front text
    else other_front text)))))
