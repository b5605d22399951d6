-- What a pattern does with a value: it gives the names that it binds, or says No (Sail language manual, "Pattern matching").
use Rattle.std.specs.Prelude.{ℕ, ℤ, ◌+◌, ◌-◌, nat_eq, nat_le, neg_ℤ, Bool, true, false, ◌&&◌, bytes_eq, if◌then◌else◌}
use Rattle.std.specs.Prelude.{List, [], ◌∷◌, ◌++◌, length, take, drop, reverse, map, pos, Option, Some, None, option_map}
use Rattle.std.specs.Bool.{beq}
use Rattle.std.specs.Option.{option_or}
use Rattle.std.specs.Ordering.{int_eq}
use Rattle.sail_base.specs.Bits.{eq_bits}
use Rattle.sail_types.specs.Readings.{together}
use Rattle.sail_types.specs.Sums.{and_then, constant}
use Rattle.sail_types.specs.declared.numbers.Num.{Num}
use Rattle.sail_types.specs.declared.types.Typ.{Typ}
use Rattle.sail_types.specs.declared.values.Value.{Value, Value-F, out-Value}
use Rattle.sail_types.specs.declared.values.Value.TheOpen as W
use Rattle.sail_types.specs.declared.values.Value.TheVariants as V
use Rattle.sail_syntax.specs.declared.name.Literal.{Literal}
use Rattle.sail_syntax.specs.declared.name.Literal.TheVariants as L
use Rattle.sail_syntax.specs.declared.words.Brackets.{Brackets}
use Rattle.sail_syntax.specs.declared.words.Brackets.TheVariants as B
use Rattle.sail_syntax.specs.declared.patterns.Pat.{Pat, Pat-F, fold-Pat}
use Rattle.sail_syntax.specs.declared.patterns.Pat.TheOpen as P
use Rattle.sail_core.specs.Numbers.{Givens, known}
use Rattle.sail_core.specs.Run.{gives, falls, stuck, needs, local, ◌then◌}
use Rattle.sail_core.specs.Values.{natural_of}
use Rattle.sail_meaning.specs.Named.{Inside, member_named, constructor_named}
use Rattle.sail_meaning.specs.World.{World, Piece, Bindings, written_typ, width_of, sides}

-- a pattern: what it does, and the width of the part that it takes of a word, as a number of a type, where that is known
pub record Matcher : Type 0 where
  pub matches : World → Value → Piece Bindings
  pub width : World → Option Num

-- a test that binds nothing
abbrev pub tested : Bool → Piece Bindings
tested true = gives []
tested false = falls

-- parts from left to right, up to the first that doesn't match
abbrev pub parts_match : List Matcher → World → List Value → Piece Bindings
parts_match [] w [] = gives []
parts_match (p ∷ ps) w (v ∷ vs) = p.matches w v then λ found. parts_match ps w vs then λ others. gives (found ++ others)
parts_match ps w vs = stuck

-- as many parts as values; another count is stuck before any part is matched
abbrev pub all_match : List Matcher → World → List Value → Piece Bindings
all_match ps w vs = if nat_eq (length ps) (length vs) then parts_match ps w vs else stuck

-- ---- literals

abbrev pub integer_matches : ℤ → Value-F Value → Piece Bindings
integer_matches n (W.Integer m) = tested (int_eq n m)
integer_matches n v = stuck

-- a literal of bits against bits of another width is stuck
abbrev pub literal_matches : Literal → Value-F Value → Piece Bindings
literal_matches (L.Number n) v = integer_matches n v
literal_matches (L.Bits bs) (W.Bits cs) = if nat_eq (length bs) (length cs) then tested (eq_bits bs cs) else stuck
literal_matches (L.String s) (W.String t) = tested (bytes_eq s t)
literal_matches (L.Bool a) (W.Truth b) = tested (beq a b)
literal_matches (L.Bit a) (W.Bit b) = tested (beq a b)
literal_matches literal v = stuck

abbrev pub literal_width : Literal → Option Num
literal_width (L.Bits bs) = Some (constant (pos (length bs)))
literal_width literal = None

abbrev pub unit_matches : Value-F Value → Piece Bindings
unit_matches W.Unit = gives []
unit_matches v = stuck

-- ---- identifiers: a member of an enum where one has the name, else it binds

abbrev pub member_matches : Value-F Value → Value-F Value → Piece Bindings
member_matches (W.Member e k) (W.Member f l) = if nat_eq e f then tested (nat_eq k l) else stuck
member_matches member v = stuck

abbrev pub identifier_matches : Option Value → List ℕ → Value → Piece Bindings
identifier_matches None name v = gives (local name v ∷ [])
identifier_matches (Some member) name v = member_matches (out-Value member) (out-Value v)

-- ---- brackets: a tuple; a vector, whose last part has index 0; a list of exactly so many items

abbrev pub group_matches : Brackets → List Matcher → World → Value-F Value → Piece Bindings
group_matches B.Tuple [] w v = unit_matches v
group_matches B.Tuple ps w (W.Tuple vs) = all_match ps w vs
group_matches B.Vector ps w (W.Vector vs) = all_match ps w (reverse vs)
group_matches B.List ps w (W.List vs) = if nat_eq (length ps) (length vs) then parts_match ps w vs else falls
group_matches brackets ps w v = stuck

-- the first item of a list, and the list of the others
abbrev pub cons_matches : Matcher → Matcher → World → Value-F Value → Piece Bindings
cons_matches p q w (W.List []) = falls
cons_matches p q w (W.List (v ∷ vs)) = parts_match (p ∷ q ∷ []) w (v ∷ V.List vs ∷ [])
cons_matches p q w v = stuck

-- ---- constructors and mappings

-- one value against what stands in brackets: `()`, one pattern, or the patterns of a tuple
abbrev pub whole_matches : List Matcher → World → Value → Piece Bindings
whole_matches (p ∷ []) w v = p.matches w v
whole_matches ps w v = group_matches B.Tuple ps w (out-Value v)

abbrev pub constructor_matches : Inside → List Matcher → World → Value-F Value → Piece Bindings
constructor_matches at ps w (W.Union u c v) = if nat_eq u at.0 && nat_eq c at.1 then whole_matches ps w v else falls
constructor_matches at ps w v = stuck

-- `m(p)`: the value on the other side of the mapping, against p
abbrev pub construct_matches : List ℕ → List Matcher → World → Value → Option Inside → Piece Bindings
construct_matches name ps w v (Some at) = constructor_matches at ps w (out-Value v)
construct_matches name ps w v None = w.convert name v then whole_matches ps w

-- the width of the side of a mapping that is bits
abbrev pub width_on_side : List (Typ × Typ) → Option Num
width_on_side [] = None
width_on_side (pair ∷ pairs) = option_or (width_of pair.0) (width_on_side pairs)

-- ---- `p @ q`: the parts of a word, the highest bits to the left; one of unknown width takes the rest

abbrev pub width_now : Givens → Option Num → Option (Option ℕ)
width_now numbers None = Some None
width_now numbers (Some n) = option_map Some (and_then (known numbers n) natural_of)

abbrev pub sum_of_known : List (Option ℕ) → ℕ
sum_of_known [] = 0
sum_of_known (None ∷ ws) = sum_of_known ws
sum_of_known (Some n ∷ ws) = n + sum_of_known ws

abbrev pub or_rest : ℕ → Option ℕ → ℕ
or_rest rest None = rest
or_rest rest (Some n) = n

-- a word cut into parts of these widths, which are to use it up
abbrev pub cut : List ℕ → List Bool → Option (List Value)
cut [] [] = Some []
cut [] (b ∷ bs) = None
cut (n ∷ ns) bs =
    if nat_le n (length bs) then option_map (λ vs. V.Bits (drop (length bs - n) bs) ∷ vs) (cut ns (take (length bs - n) bs)) else None

abbrev pub cut_by : List Bool → List (Option ℕ) → Option (List Value)
cut_by bs ws = cut (map (or_rest (length bs - sum_of_known ws)) ws) bs

abbrev pub concat_matches : List Matcher → World → Value-F Value → Piece Bindings
concat_matches ps w (W.Bits bs) =
    needs (and_then (together (map (λ p. width_now w.numbers (p.width w)) ps)) (cut_by bs)) then parts_match ps w
concat_matches ps w v = stuck

-- ---- one case for each form

abbrev pub of_unknown_width : (World → Value → Piece Bindings) → Matcher
of_unknown_width matches = record { matches = matches; width = λ w. None }

abbrev pub pattern_form : Pat-F Matcher Matcher → Matcher
pattern_form (P.Wildcard place) = of_unknown_width (λ w v. gives [])
pattern_form (P.Constant place literal) =
    record { matches = λ w v. literal_matches literal (out-Value v); width = λ w. literal_width literal }
pattern_form (P.Negative place n) = of_unknown_width (λ w v. integer_matches (neg_ℤ n) (out-Value v))
pattern_form (P.Bind name) = record {
  matches = λ w v. identifier_matches (member_named w.text.types name.text) name.text v;
  width = λ w. w.bare_width name.text;
}
pattern_form (P.Construct name ps) = record {
  matches = λ w v. construct_matches name.text ps w v (constructor_named w.text.types name.text);
  width = λ w. width_on_side (sides w name.text);
}
pattern_form (P.Group place brackets ps) = of_unknown_width (λ w v. group_matches brackets ps w (out-Value v))
pattern_form (P.Concat place p q more) = of_unknown_width (λ w v. concat_matches (p ∷ q ∷ more) w (out-Value v))
pattern_form (P.Cons place p q) = of_unknown_width (λ w v. cons_matches p q w (out-Value v))
pattern_form (P.As place p name) =
    of_unknown_width (λ w v. p.matches w v then λ found. gives (found ++ local name.text v ∷ []))
pattern_form (P.Typed place p typ) = record { matches = p.matches; width = λ w. and_then (written_typ w typ) width_of }

abbrev pub matcher : Pat → Matcher
matcher = fold-Pat Matcher Matcher pattern_form (λ joined. joined.part)

-- a pattern against a value
abbrev pub matching : World → Pat → Value → Piece Bindings
matching w pattern = (matcher pattern).matches w

-- patterns in the brackets of a parameter list against arguments, where `()` is one parameter
abbrev pub arguments_match : World → List Pat → List Value → Piece Bindings
arguments_match w [] (v ∷ []) = unit_matches (out-Value v)
arguments_match w patterns vs = all_match (map matcher patterns) w vs
