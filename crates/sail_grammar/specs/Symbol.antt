-- The tokens of a model as the grammar sees them.
use Rattle.std.specs.Prelude.{ℕ, suc, ◌==◌, Bool, ◌&&◌, ◌||◌, if◌then◌else◌, List, [], ◌∷◌, bytes_eq, codes}
use Rattle.sail_lex.specs.declared.kind.TokenKind.{TokenKind}
use Rattle.sail_lex.specs.declared.kind.TokenKind.TheVariants.{Identifier, Decimal}
use Rattle.sail_lex.specs.contracts.kind.TokenKind.{the_type}
use Rattle.sail_grammar.specs.declared.lexeme.Lexeme.{Lexeme}
use denote.Enum.Declared.{tag_of}

-- a token with its text
abbrev pub Sign : Type 0
Sign = Lexeme

-- the symbol of a kind of token: its place among all kinds, from 1
abbrev pub code : TokenKind → ℕ
code k = suc (tag_of the_type k)

-- two symbols more: the decimal that is spelled `2`, and an identifier that is spelled as a kind
abbrev pub two : ℕ
two = 201

abbrev pub kind_name : ℕ
kind_name = 202

abbrev pub is_two : List ℕ → Bool
is_two text = bytes_eq text (codes "2")

abbrev pub is_kind_name : List ℕ → Bool
is_kind_name text = bytes_eq text (codes "Int") || (bytes_eq text (codes "Bool") || bytes_eq text (codes "Type"))

-- the symbol of a token
abbrev pub symbol : Sign → ℕ
symbol s = if code s.kind == code Decimal && is_two s.text then two else (if code s.kind ==
    code Identifier && is_kind_name s.text then kind_name else code s.kind)

-- the symbols of identifiers, and of decimals
abbrev pub identifiers : List ℕ
identifiers = code Identifier ∷ kind_name ∷ []

abbrev pub numbers : List ℕ
numbers = code Decimal ∷ two ∷ []
