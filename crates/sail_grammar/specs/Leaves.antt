-- What single tokens stand for, and where trees begin.
use Rattle.std.specs.Prelude.{ℕ, ℤ, pos, ◌-◌, ◌^◌, ◌&&◌, Bool, true, false, nat_lt, if◌then◌else◌, List, [], ◌∷◌, length, take, drop, Option, Some, None}
use Rattle.sail_base.specs.declared.place.Place.{Place}
use Rattle.sail_base.specs.Bits.{bits_of}
use Rattle.sail_lex.specs.declared.kind.TokenKind.{TokenKind}
use Rattle.sail_lex.specs.declared.kind.TokenKind.TheVariants as K
use Rattle.sail_lex.specs.Literal.{decimal_value, literal_width, literal_bits, string_value}
use Rattle.sail_syntax.specs.declared.name.Name.{Name}
use Rattle.sail_syntax.specs.declared.name.Literal.{Literal}
use Rattle.sail_syntax.specs.declared.name.Literal.TheVariants as L
use Rattle.sail_grammar.specs.Symbol.{Sign}
use Rattle.sail_grammar.specs.Form.{Tree, Nothing, Leaf, Pair, Left, Right}

-- the place of nothing
abbrev pub nowhere : Place
nowhere = record { file = 0; line = 0; column = 0 }

-- the first token of a tree
abbrev pub either : Option Sign → Option Sign → Option Sign
either None b = b
either (Some s) b = Some s

abbrev pub first_sign : Tree → Option Sign
first_sign Nothing = None
first_sign (Leaf s) = Some s
first_sign (Pair t u) = either (first_sign t) (first_sign u)
first_sign (Left t) = first_sign t
first_sign (Right t) = first_sign t

abbrev pub place_of_sign : Option Sign → Place
place_of_sign None = nowhere
place_of_sign (Some s) = s.place

-- where a tree begins
abbrev pub first_place : Tree → Place
first_place t = place_of_sign (first_sign t)

-- where a list of tokens begins
abbrev pub place_ahead : List Sign → Place
place_ahead [] = nowhere
place_ahead (s ∷ ss) = s.place

-- where a token stands
abbrev pub place_at : Tree → Place
place_at (Leaf s) = s.place
place_at t = nowhere

abbrev pub kind_at : Tree → TokenKind
kind_at (Leaf s) = s.kind
kind_at t = K.LeftOut

abbrev pub text_at : Tree → List ℕ
text_at (Leaf s) = s.text
text_at t = []

-- the name of an identifier or a type variable
abbrev pub name_at : Tree → Name
name_at t = record { place = place_at t; text = text_at t }

-- what a decimal stands for; no token is one above the 126th power of two
abbrev pub number_of : List ℕ → ℤ
number_of text = if nat_lt (2 ^ 126) (decimal_value text) then pos 0 else pos (decimal_value text)

abbrev pub number_at : Tree → ℤ
number_at t = number_of (text_at t)

-- the bits of a literal; no token has more than 128, or a prefix cut short
abbrev pub bits_at : List ℕ → List Bool
bits_at text = if nat_lt (length text) 2 then [] else (if nat_lt 128 (literal_width text) then [] else bits_of (literal_width text) (literal_bits text))

-- all bytes are ASCII
abbrev pub all_ascii : List ℕ → Bool
all_ascii [] = true
all_ascii (b ∷ bs) = nat_lt b 128 && all_ascii bs

-- what a string stands for; no token is one without its quote, or with other bytes
abbrev pub text_value : List ℕ → List ℕ
text_value text = if nat_lt (length text) 1 then [] else (if all_ascii (string_value text) then string_value text else [])

-- what a literal of this kind and text stands for
abbrev pub literal_of : TokenKind → List ℕ → Literal
literal_of K.Hexadecimal text = L.Bits (bits_at text)
literal_of K.Binary text = L.Bits (bits_at text)
literal_of K.StringLiteral text = L.String (text_value text)
literal_of K.True text = L.Bool true
literal_of K.False text = L.Bool false
literal_of K.Bitone text = L.Bit true
literal_of K.Bitzero text = L.Bit false
literal_of kind text = L.Number (number_of text)

abbrev pub literal_at : Tree → Literal
literal_at t = literal_of (kind_at t) (text_at t)

-- the text of a string as spelled, between its quotes
abbrev pub inner_text : List ℕ → List ℕ
inner_text text = take (length text - 2) (drop 1 text)
