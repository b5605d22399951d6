-- Literals in patterns (Sail language manual, "Pattern matching").
use Rattle.std.specs.Prelude.{ℕ, ℤ, pos, nat_eq, Bool, true, false, List, [], ◌∷◌, length, Some}
use Rattle.sail_base.specs.declared.place.Place.{Place}
use Rattle.sail_types.specs.Sums.{constant}
use Rattle.sail_types.specs.declared.numbers.Num.{Num}
use Rattle.sail_core.specs.declared.patterns.Literal.{Literal}
use Rattle.sail_core.specs.declared.patterns.Literal.TheVariants as L
use Rattle.value_indices.specs.declared.indices.Indices.{Indices}
use Rattle.value_indices.specs.declared.indices.Indices.TheOpen as W
use Rattle.value_indices.specs.declared.indices.Indices.TheOpen.{Indices-F}
use Rattle.value_indices.specs.declared.indices.Reading.{Reading}
use Rattle.value_indices.specs.Steps.{Walk, bind, give, assume, owe, wrong}
use Rattle.value_indices.specs.Opening.{equal}
use Rattle.pattern_leaves.specs.declared.names.Bound.{Bound}

-- a pattern that binds nothing
abbrev pub no_names : Walk (List Bound)
no_names = give []

-- a pattern that no model which was resolved has there: what is false is owed
abbrev pub wrong_pattern : Place → Walk (List Bound)
wrong_pattern place = bind (wrong place) (λ t. no_names)

-- in a case the value is the integer; elsewhere it may be another one
abbrev pub integer_met : Bool → ℤ → Num → Walk (List Bound)
integer_met true z n = bind (assume (equal n (constant z))) (λ t. no_names)
integer_met false z n = no_names

-- whether values of these indices are of this enum
abbrev pub is_of_enum : ℕ → Indices-F Indices Reading → Bool
is_of_enum e (W.Named u is rs) = nat_eq e u
is_of_enum e i = false

-- whether a literal that owes nothing is one of values of these indices: a member, of those of its own enum
abbrev pub is_of : Literal → Indices-F Indices Reading → Bool
is_of L.Unit W.Unit = true
is_of (L.Truth b) (W.Truth c) = true
is_of (L.Bit b) W.Bit = true
is_of (L.String text) W.String = true
is_of (L.Member e k) i = is_of_enum e i
is_of literal i = false

-- what owes nothing where it is one of the values
abbrev pub met_where : Place → Bool → Walk (List Bound)
met_where place true = no_names
met_where place false = wrong_pattern place

-- bits are as wide as the value
abbrev pub bits_met : Place → ℕ → Num → Walk (List Bound)
bits_met place width w = bind (owe place (Some (equal (constant (pos width)) w) ∷ [])) (λ t. no_names)

-- a literal where an integer stands
abbrev pub with_integer : Place → Bool → Num → Literal → Walk (List Bound)
with_integer place in_case n (L.Integer z) = integer_met in_case z n
with_integer place in_case n literal = wrong_pattern place

-- a literal where bits stand
abbrev pub with_bits : Place → Num → Literal → Walk (List Bound)
with_bits place w (L.Bits bits) = bits_met place (length bits) w
with_bits place w literal = wrong_pattern place

-- a literal that is matched with a value of these indices; of none nothing is owed
abbrev pub literal_met : Place → Bool → Literal → Indices-F Indices Reading → Walk (List Bound)
literal_met place in_case literal W.Never = no_names
literal_met place in_case literal (W.Integer n) = with_integer place in_case n literal
literal_met place in_case literal (W.Bits w) = with_bits place w literal
literal_met place in_case literal i = met_where place (is_of literal i)
