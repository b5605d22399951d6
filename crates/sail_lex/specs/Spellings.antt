-- How the tokens are spelled, kind by kind, and which of the spellings that begin a text is taken.
use Rattle.std.specs.Prelude.{◌≡◌, ℕ, ◌+◌, ◌<◌, ◌≤◌, Bool, true, false, ◌&&◌, ◌==◌, List, ◌∷◌, length, take, drop, count_by, [], ◌⊎◌}
use Rattle.std.specs.List.{list_all}
use Rattle.std.specs.Char.{is_ascii_digit, is_ascii_hexdigit}
use Rattle.sail_lex.specs.declared.kind.TokenKind.{TokenKind}
use Rattle.sail_lex.specs.declared.kind.TokenKind.TheVariants.{TypeVariable, Decimal, Hexadecimal, Binary, StringLiteral, LeftOut}
use Rattle.sail_lex.specs.Bytes.{begins_name, in_name, in_decimal, in_hexadecimal, in_binary, is_binary_digit, in_directive, first}
use Rattle.sail_lex.specs.Front.{is_include}
use Rattle.sail_lex.specs.Literal.{string_parts, is_good, size_of}
use Rattle.sail_lex.specs.Lookup.{kind_of_name}
use Rattle.sail_lex.specs.Tables.{symbols}

-- a table has the spelling with this kind
unfoldable pub StandsIn : List (List ℕ × TokenKind) → List ℕ → TokenKind → Type 0
StandsIn [] text kind = ⊥
StandsIn (e ∷ table) text kind = ((e.0 ≡ text) × (e.1 ≡ kind)) ⊎ StandsIn table text kind

-- a letter or `_`, then letters, digits and `_`
abbrev pub is_name : List ℕ → Bool
is_name text = begins_name (first text) && list_all in_name text

-- good parts between two quotes, and nothing behind them
abbrev pub is_string : List ℕ → Bool
is_string text = (first text == 34 && list_all is_good (string_parts text)) &&
    (first (drop (size_of (string_parts text) + 1) text) == 34 && length text == size_of (string_parts text) + 2)

-- the text is a spelling of the kind, with one case for each kind of spelling
pub data IsSpelling : TokenKind → List ℕ → Type 0 where
  named : {text : List ℕ} → is_name text ≡ true → IsSpelling (kind_of_name text) text
  type_variable : {text : List ℕ} → is_name text ≡ true → IsSpelling TypeVariable (39 ∷ text)
  decimal : {text : List ℕ} → is_ascii_digit (first text) ≡ true → list_all in_decimal text ≡ true → IsSpelling Decimal text
  hexadecimal : {text : List ℕ} → list_all in_hexadecimal text ≡ true → 0 < count_by is_ascii_hexdigit text → IsSpelling Hexadecimal (48 ∷ 120 ∷ text)
  binary : {text : List ℕ} → list_all in_binary text ≡ true → 0 < count_by is_binary_digit text → IsSpelling Binary (48 ∷ 98 ∷ text)
  string : {text : List ℕ} → is_string text ≡ true → IsSpelling StringLiteral text
  directive : {text : List ℕ} → first text ≡ 36 → list_all in_directive text ≡ true → is_include text ≡ false → IsSpelling LeftOut text
  symbol : {text : List ℕ} {kind : TokenKind} → StandsIn symbols text kind → IsSpelling kind text

-- the first n bytes of the text are a spelling of the kind, and no more of its first bytes are one of any kind
pub record IsLongest (text : List ℕ) (kind : TokenKind) (n : ℕ) : Type 0 where
  pub spelled : IsSpelling kind (take n text)
  pub longest : (other : TokenKind) (m : ℕ) → m ≤ length text → IsSpelling other (take m text) → m ≤ n

-- no first bytes of the text are a spelling of any kind
abbrev pub BeginsNone : List ℕ → Type 0
BeginsNone text = (kind : TokenKind) (m : ℕ) → m ≤ length text → IsSpelling kind (take m text) → ⊥

-- no n or more first bytes of the text are a spelling of any kind
abbrev pub IsLonger : List ℕ → ℕ → Type 0
IsLonger text n = (kind : TokenKind) (m : ℕ) → m ≤ length text → IsSpelling kind (take m text) → m < n
