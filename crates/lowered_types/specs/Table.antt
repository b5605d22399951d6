-- The table of a module's types, by the types with constant sizes that have a number in it (Sail language manual, "Type variables").
use Rattle.std.specs.Prelude.{◌≡◌, ℕ, suc, nat_lt, ℤ, pos, negsuc, Bool, true, false, ◌&&◌, ◌||◌, List, [], ◌∷◌, length, map, slice_get}
use Rattle.std.specs.Prelude.{Option, Some, if◌then◌else◌}
use Rattle.sail_types.specs.Named.{in_form}
use Rattle.sail_types.specs.declared.table.Types.{Types}
use Rattle.sail_types.specs.declared.table.Form.{Form}
use Rattle.sail_types.specs.declared.table.Form.TheVariants as F
use Rattle.size_values.specs.declared.sized.Sized.{Sized, Sized-F, out-Sized}
use Rattle.size_values.specs.declared.sized.Sized.TheOpen as Z
use Rattle.size_values.specs.Sized.{sized_eq}
use Rattle.jib.specs.declared.types.ValueType.{ValueType}
use Rattle.jib.specs.declared.types.ValueType.TheVariants as T
use Rattle.checked_meaning.specs.Fits.{fields_under}

-- ---- numbers

-- the number of the first that is this type; where there is none, how many there are
abbrev pub type_in : List Sized → Sized → ℕ
type_in [] t = 0
type_in (s ∷ ss) t = if sized_eq s t then 0 else suc (type_in ss t)

-- what doesn't exist needs no number
abbrev pub form_never : Sized-F Sized → Bool
form_never Z.Never = true
form_never s = false

abbrev pub is_known : List Sized → Sized → Bool
is_known ss t = form_never (out-Sized t) || nat_lt (type_in ss t) (length ss)

abbrev pub all_known : List Sized → List Sized → Bool
all_known ss [] = true
all_known ss (t ∷ ts) = is_known ss t && all_known ss ts

-- ---- the value type of a type, by the numbers of the types inside it

abbrev pub natural : ℤ → ℕ
natural (pos n) = n
natural (negsuc n) = 0

abbrev pub named_value : Types → (Sized → ℕ) → ℕ → List (Option ℤ) → List Sized → Form → ValueType
named_value types number u zs ss (F.Struct fs) = T.Struct u (map number (fields_under types zs ss fs))
named_value types number u zs ss (F.Union fs) = T.Union u (map number (fields_under types zs ss fs))
named_value types number u zs ss (F.Enum ms) = T.Enum u (length ms)

abbrev pub form_value : Types → (Sized → ℕ) → Sized-F Sized → ValueType
form_value types number Z.Never = T.Unit
form_value types number Z.Unit = T.Unit
form_value types number Z.Bool = T.Truth
form_value types number Z.Bit = T.Bit
form_value types number (Z.Bits n) = T.Bits (natural n)
form_value types number Z.Int = T.Integer
form_value types number Z.String = T.String
form_value types number (Z.List s) = T.List (number s)
form_value types number (Z.Vector n s) = T.Vector (natural n) (number s)
form_value types number (Z.Tuple ss) = T.Tuple (map number ss)
form_value types number (Z.Named u zs ss) = in_form T.Unit (named_value types number u zs ss) (slice_get types.definitions u)

-- ---- the types inside a type

abbrev pub named_parts : Types → List (Option ℤ) → List Sized → Form → List Sized
named_parts types zs ss (F.Struct fs) = fields_under types zs ss fs
named_parts types zs ss (F.Union fs) = fields_under types zs ss fs
named_parts types zs ss (F.Enum ms) = []

abbrev pub form_parts : Types → Sized-F Sized → List Sized
form_parts types (Z.List s) = s ∷ []
form_parts types (Z.Vector n s) = s ∷ []
form_parts types (Z.Tuple ss) = ss
form_parts types (Z.Named u zs ss) = in_form [] (named_parts types zs ss) (slice_get types.definitions u)
form_parts types s = []

-- ---- the table

-- it has the value type of each, and the types inside each have numbers too
pub record TypesStand (types : Types) (ss : List Sized) (vts : List ValueType) : Type 0 where
  pub each : (i : ℕ) (s : Sized) → slice_get ss i ≡ Some s → slice_get vts i ≡ Some (form_value types (type_in ss) (out-Sized s))
  pub inside : (i : ℕ) (s : Sized) → slice_get ss i ≡ Some s → all_known ss (form_parts types (out-Sized s)) ≡ true
