-- What the texts of tokens stand for is within the limits.
use Rattle.std.specs.Prelude.{◌≡◌, ℕ, ◌-◌, ◌^◌, ◌≤◌, Bool, true, false, List, [], ◌∷◌, length, take, drop, IsAscii}
use Rattle.sail_lex.specs.declared.kind.TokenKind.{TokenKind}
use Rattle.sail_lex.specs.declared.kind.TokenKind.TheVariants.{Decimal, Hexadecimal, Binary, StringLiteral}
use Rattle.sail_lex.specs.declared.literal.Radix.TheVariants.{Base2, Base16}
use Rattle.sail_lex.specs.declared.token.Token.{Token}
use Rattle.sail_lex.specs.Literal.{decimal_value, radix_of, literal_width}

-- the tokens of a kind have values
abbrev pub has_value : TokenKind → Bool
has_value Decimal = true
has_value Hexadecimal = true
has_value Binary = true
has_value StringLiteral = true
has_value _ = false

-- a decimal is at most the 126th power of two, a literal has its prefix and at most 128 bits, and a string its quote
unfoldable pub IsValued : TokenKind → List ℕ → Type 0
IsValued Decimal text = decimal_value text ≤ 2 ^ 126
IsValued Hexadecimal text = (2 ≤ length text) × (radix_of text ≡ Base16) × (literal_width text ≤ 128)
IsValued Binary text = (2 ≤ length text) × (radix_of text ≡ Base2) × (literal_width text ≤ 128)
IsValued StringLiteral text = 1 ≤ length text
IsValued _ text = Unit {0}

-- the text of a token is its span of the source
abbrev pub text_of : List ℕ → Token → List ℕ
text_of source t = take (t.end - t.start) (drop t.start source)

-- so it is with the text of each token
abbrev pub AreValued : List ℕ → List Token → Type 0
AreValued source [] = Unit {0}
AreValued source (t ∷ tokens) = IsValued t.kind (text_of source t) × AreValued source tokens

-- the text of each token is ASCII
abbrev pub AreAscii : List ℕ → List Token → Type 0
AreAscii source [] = Unit {0}
AreAscii source (t ∷ tokens) = IsAscii (text_of source t) × AreAscii source tokens
