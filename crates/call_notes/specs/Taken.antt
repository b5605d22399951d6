-- What a builtin takes: values whose indices have the forms of its parameters (Sail language manual, "Integers", "Bitvectors", "Vectors",
-- "Overloading").
use Rattle.std.specs.Prelude.{ℕ, nat_eq, Bool, true, false, ◌&&◌, ◌||◌, List, [], ◌∷◌, slice_get}
use Rattle.sail_types.specs.Named.{in_form}
use Rattle.sail_types.specs.Rows.{form_is_enum, row_members}
use Rattle.sail_types.specs.declared.members.Member.{Member}
use Rattle.sail_types.specs.declared.rows.Row.{Row}
use Rattle.sail_types.specs.declared.shapes.Shape.{Shape, Shape-F, out-Shape}
use Rattle.sail_types.specs.declared.shapes.Shape.TheOpen as S
use Rattle.sail_types.specs.declared.table.Types.{Types}
use Rattle.value_indices.specs.declared.indices.Indices.{Indices, out-Indices}
use Rattle.value_indices.specs.declared.indices.Indices.TheOpen as W
use Rattle.value_indices.specs.declared.indices.Indices.TheOpen.{Indices-F}
use Rattle.value_indices.specs.declared.indices.Reading.{Reading}

-- indices of one form
abbrev pub Form : Type 0
Form = Indices-F Indices Reading

-- ---- the form of indices

abbrev pub is_unit : Form → Bool
is_unit W.Unit = true
is_unit i = false

abbrev pub is_truth : Form → Bool
is_truth (W.Truth c) = true
is_truth i = false

abbrev pub is_bit : Form → Bool
is_bit W.Bit = true
is_bit i = false

abbrev pub is_bits : Form → Bool
is_bits (W.Bits t) = true
is_bits i = false

abbrev pub is_integer : Form → Bool
is_integer (W.Integer t) = true
is_integer i = false

abbrev pub is_string : Form → Bool
is_string W.String = true
is_string i = false

abbrev pub is_vector : Form → Bool
is_vector (W.Vector t r) = true
is_vector i = false

-- a member of the enum of this place in the table
abbrev pub is_enum_at : Types → ℕ → Bool
is_enum_at types u = in_form false form_is_enum (slice_get types.definitions u)

abbrev pub is_member_of : Types → ℕ → Form → Bool
is_member_of types u (W.Named v is rs) = nat_eq v u && is_enum_at types v
is_member_of types u i = false

-- ---- shapes

-- any shape
abbrev pub is_any : Shape-F Shape → Bool
is_any (S.Variable k) = true
is_any s = false

-- whether indices of this form are those of values of a shape: members of an enum are of a named one, and vectors of one whose items are any
abbrev pub form_suits : Types → Shape-F Shape → Form → Bool
form_suits types S.Unit i = is_unit i
form_suits types S.Bool i = is_truth i
form_suits types S.Bit i = is_bit i
form_suits types S.Bits i = is_bits i
form_suits types S.Int i = is_integer i
form_suits types S.String i = is_string i
form_suits types (S.Vector s) i = is_any (out-Shape s) && is_vector i
form_suits types (S.Named u ss) i = is_member_of types u i
form_suits types (S.Variable k) i = true
form_suits types s i = false

abbrev pub suits : Types → Shape → Indices → Bool
suits types s i = form_suits types (out-Shape s) (out-Indices i)

-- no builtin has more than three parameters, or none
abbrev pub each_suits : Types → List Shape → List Indices → Bool
each_suits types (s ∷ []) (i ∷ []) = suits types s i
each_suits types (s ∷ t ∷ []) (i ∷ j ∷ []) = suits types s i && suits types t j
each_suits types (s ∷ t ∷ u ∷ []) (i ∷ j ∷ k ∷ []) = suits types s i && (suits types t j && suits types u k)
each_suits types ss is = false

-- ---- builtins

abbrev pub any_suits : Types → List Indices → List Member → Bool
any_suits types is [] = false
any_suits types is (m ∷ ms) = each_suits types m.params is || any_suits types is ms

-- whether a builtin takes such arguments: those of one of its members
abbrev pub takes : Types → Row → List Indices → Bool
takes types row is = any_suits types is (row_members types row)
