-- Which types have a zero, at which a register without an initial value starts, whatever their widths and lengths are (Sail language
-- manual, "Registers").
use Rattle.std.specs.Prelude.{ℕ, zero, suc, ℤ, int_le, Bool, true, false, ◌&&◌, List, [], ◌∷◌, map, slice_get, unwrap_or, Option, Some, None}
use Rattle.sail_types.specs.Named.{in_form, field_types}
use Rattle.sail_types.specs.Readings.{read_indices}
use Rattle.sail_types.specs.Zero.{deepest, known}
use Rattle.sail_types.specs.declared.numbers.Index.{Index}
use Rattle.sail_types.specs.declared.numbers.Num.{Num}
use Rattle.sail_types.specs.declared.table.Form.{Form}
use Rattle.sail_types.specs.declared.table.Form.TheVariants as F
use Rattle.sail_types.specs.declared.table.Types.{Types}
use Rattle.sail_types.specs.declared.types.Typ.{Typ, Typ-F, out-Typ}
use Rattle.sail_types.specs.declared.types.Typ.TheOpen as T

-- a type, asked for it under what its Int and Bool variables stand for, and whether what its Type variables stand for has one
abbrev pub Zeroed : Type 0
Zeroed = List Index → List Bool → Bool

-- types in order
abbrev pub each_zeroed : List Zeroed → List Index → List Bool → List Bool
each_zeroed [] indices given = []
each_zeroed (t ∷ ts) indices given = t indices given ∷ each_zeroed ts indices given

abbrev pub all_zeroed : List Bool → Bool
all_zeroed [] = true
all_zeroed (b ∷ bs) = b && all_zeroed bs

-- a range whose ends are constant, the last not below the first
abbrev pub has_integer : Option ℤ → Option ℤ → Bool
has_integer (Some a) (Some b) = int_le a b
has_integer a b = false

abbrev pub range_zeroed : List Index → Num → Num → Bool
range_zeroed indices low high = has_integer (known indices low) (known indices high)

-- a struct, part by part; an enum has a first member
abbrev pub named_zeroed : (Typ → Zeroed) → List Bool → List Index → Form → Bool
named_zeroed zeroed given indices (F.Struct fields) = all_zeroed (each_zeroed (map zeroed (field_types fields)) indices given)
named_zeroed zeroed given indices (F.Union constructors) = false
named_zeroed zeroed given indices (F.Enum members) = true

-- what stands at a place in the table, at these arguments
abbrev pub table_zeroed : Types → (Typ → Zeroed) → ℕ → List Index → List Bool → Bool
table_zeroed types zeroed i indices given = in_form false (named_zeroed zeroed given indices) (slice_get types.definitions i)

abbrev pub table_zeroed_if : Types → (Typ → Zeroed) → ℕ → Option (List Index) → List Bool → Bool
table_zeroed_if types zeroed i None given = false
table_zeroed_if types zeroed i (Some indices) given = table_zeroed types zeroed i indices given

-- a type of this form; `zeroed` is for the types inside it
abbrev pub form_zeroed : Types → (Typ → Zeroed) → Typ-F Typ → Zeroed
form_zeroed types zeroed T.Unit indices given = true
form_zeroed types zeroed T.Bool indices given = true
form_zeroed types zeroed T.Bit indices given = true
form_zeroed types zeroed (T.Bits n) indices given = true
form_zeroed types zeroed (T.Range low high) indices given = range_zeroed indices low high
form_zeroed types zeroed (T.Vector n t) indices given = zeroed t indices given
form_zeroed types zeroed (T.Tuple ts) indices given = all_zeroed (each_zeroed (map zeroed ts) indices given)
form_zeroed types zeroed (T.Named i arguments ts) indices given =
    table_zeroed_if types zeroed i (read_indices indices arguments) (each_zeroed (map zeroed ts) indices given)
form_zeroed types zeroed (T.Variable i) indices given = unwrap_or (slice_get given i) false
form_zeroed types zeroed form indices given = false

-- through types inside types to this depth
abbrev pub zeroed_within : Types → ℕ → Typ → Zeroed
zeroed_within types zero t indices given = false
zeroed_within types (suc depth) t indices given = form_zeroed types (zeroed_within types depth) (out-Typ t) indices given

-- a type without variables
abbrev pub has_zero : Types → Typ → Bool
has_zero types t = zeroed_within types deepest t [] []
