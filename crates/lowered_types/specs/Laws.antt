-- Laws of the table of a module's types.
use Rattle.std.specs.Prelude.{◌≡◌, ℕ, ℤ, nat_eq, Bool, true, false, List, [], Option, Some, None}
use Rattle.sail_types.specs.Named.{fields}
use Rattle.sail_types.specs.declared.table.Field.{Field}
use Rattle.sail_types.specs.declared.table.Types.{Types}
use Rattle.sail_types.specs.declared.values.Value.{Value}
use Rattle.sail_core.specs.Making.{component, one_item, payload}
use Rattle.size_values.specs.declared.sized.Sized.{Sized, Sized-F, out-Sized}
use Rattle.size_values.specs.declared.sized.Sized.TheOpen as Z
use Rattle.jib.specs.declared.types.ValueType.{ValueType}
use Rattle.jib.specs.Values.{has}
use Rattle.checked_meaning.specs.Fits.{fields_under, has_sizes}
use Rattle.checked_meaning.specs.Items.{part_typ}
use Rattle.lowered_types.specs.Table.{TypesStand, all_known, is_known, type_in}

-- a value that has the sizes of a type that has a number belongs to the type of this number
abbrev pub TypesHave : Type 0
TypesHave = (types : Types) (ss : List Sized) (vts : List ValueType) → TypesStand types ss vts → (v : Value) (t : Sized) → has_sizes types v t ≡ true
    → is_known ss t ≡ true → has vts v (type_in ss t) ≡ true

-- whether a type is the named one at this place
abbrev pub is_named : ℕ → Sized-F Sized → Bool
is_named u (Z.Named v zs ss) = nat_eq u v
is_named u s = false

-- the types of the fields of a struct, under its arguments; of another type none
abbrev pub types_under : Types → List (Option ℤ) → List Sized → Option (List Field) → List Sized
types_under types zs ss None = []
types_under types zs ss (Some fs) = fields_under types zs ss fs

abbrev pub field_types : Types → Sized-F Sized → List Sized
field_types types (Z.Named u zs ss) = types_under types zs ss (fields types u)
field_types types s = []

-- with a type those of its parts have numbers: of a tuple, of a vector or a list, of a struct, and of a union by its constructors
pub record PartsOf (types : Types) (ss : List Sized) : Type 0 where
  pub of_tuple : (i : ℕ) (t : Sized) → is_known ss t ≡ true → is_known ss (part_typ types (component i) t) ≡ true
  pub of_items : (t : Sized) → is_known ss t ≡ true → is_known ss (part_typ types one_item t) ≡ true
  pub of_fields : (t : Sized) → is_known ss t ≡ true → all_known ss (field_types types (out-Sized t)) ≡ true
  pub of_union : (u c : ℕ) (t : Sized) → is_named u (out-Sized t) ≡ true → is_known ss t ≡ true → is_known ss (part_typ types (payload u c) t) ≡ true

abbrev pub PartsKnown : Type 0
PartsKnown = (types : Types) (ss : List Sized) (vts : List ValueType) → TypesStand types ss vts → PartsOf types ss
