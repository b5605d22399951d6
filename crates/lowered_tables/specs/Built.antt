-- What a table of types has: the value type of each, by numbers that stay, and the types inside each too.
use Rattle.std.specs.Prelude.{◌≡◌, ◌<◌, ℕ, zero, suc, ℤ, pos, Bool, true, false, ◌&&◌, List, [], ◌∷◌, ◌++◌, length, Option, Some, None, int_le, nat_lt, option_map}
use Rattle.std.specs.Prelude.{if◌then◌else◌, slice_get}
use Rattle.std.specs.Option.{option_and_then}
use Rattle.sail_types.specs.declared.table.Types.{Types}
use Rattle.size_values.specs.declared.sized.Sized.{Sized, Sized-F, out-Sized}
use Rattle.size_values.specs.declared.sized.Sized.TheOpen as Z
use Rattle.size_values.specs.declared.sized.Sized.TheVariants as S
use Rattle.jib.specs.declared.types.ValueType.{ValueType}
use Rattle.lowered_types.specs.Table.{TypesStand, all_known, form_parts, form_value, is_known, type_in}
use Rattle.lowered_pieces.specs.Emitted.{Begins}
use Rattle.lowered_tables.specs.declared.tables.Table.{Table}
use Rattle.lowered_tables.specs.declared.tables.TableError.{TableError}
use Rattle.lowered_tables.specs.declared.tables.TableError.TheVariants as E
use Rattle.lowered_tables.specs.declared.tables.TypeList.{TypeList}

-- each type has its value type; what doesn't exist has a number
pub record Stands (types : Types) (table : Table) : Type 0 where
  pub each : TypesStand types table.numbered table.types
  pub same : length table.types ≡ length table.numbered
  pub never : type_in table.numbered S.Never < length table.numbered

-- a type has a number, and all that had one have the same
pub record Grown (old new : TypeList) (t : Sized) : Type 0 where
  pub begins : Begins old.numbered new.numbered
  pub known : is_known new.numbered t ≡ true

-- the value type of a type, where these types have numbers
abbrev pub value_at : Types → List Sized → Sized → ValueType
value_at types ss t = form_value types (type_in ss) (out-Sized t)

-- the types inside each of these types have numbers
abbrev pub all_inside : Types → List Sized → List Sized → Bool
all_inside types ss [] = true
all_inside types ss (t ∷ ts) = all_known ss (form_parts types (out-Sized t)) && all_inside types ss ts

-- ---- the order in which types get numbers

abbrev pub has_number : List Sized → Sized → Bool
has_number ss t = nat_lt (type_in ss t) (length ss)

abbrev pub with_type : List Sized → Sized → List Sized
with_type ss t = if has_number ss t then ss else ss ++ t ∷ []

-- a list stands before its item, in which it may stand
abbrev pub form_list : Sized-F Sized → Bool
form_list (Z.List s) = true
form_list s = false

abbrev pub with_list : List Sized → Sized → List Sized
with_list ss t = if form_list (out-Sized t) then with_type ss t else ss

-- types one after another, of which each may come to nothing
abbrev pub one_by_one : (List Sized → Sized → Option (List Sized)) → List Sized → List Sized → Option (List Sized)
one_by_one next ss [] = Some ss
one_by_one next ss (t ∷ ts) = option_and_then (λ rs. one_by_one next rs ts) (next ss t)

-- a type stands behind the types inside it, unless it has a number; where they are nested more deeply than this it comes to nothing
abbrev pub numbered_below : Types → ℕ → List Sized → Sized → Option (List Sized)
numbered_below types zero ss t = if has_number ss t then Some ss else None
numbered_below types (suc n) ss t =
    if has_number ss t then Some ss
    else option_map (λ rs. with_type rs t) (one_by_one (numbered_below types n) (with_list ss t) (form_parts types (out-Sized t)))

-- types may be nested 1,000 deep
unfoldable pub with_number : Types → List Sized → Sized → Option (List Sized)
with_number types = numbered_below types 1000

abbrev pub with_numbers : Types → List Sized → List Sized → Option (List Sized)
with_numbers types = one_by_one (with_number types)

-- ---- what has no table

-- widths are at most 128, lengths at most 4,096
abbrev pub width_fits : ℤ → Bool
width_fits n = int_le (pos 0) n && int_le n (pos 128)

abbrev pub length_fits : ℤ → Bool
length_fits n = int_le (pos 0) n && int_le n (pos 4096)

abbrev pub sizes_fit : Sized-F Sized → Bool
sizes_fit (Z.Bits n) = width_fits n
sizes_fit (Z.Vector n s) = length_fits n
sizes_fit s = true

abbrev pub all_have : List Sized → List Sized → Bool
all_have ss [] = true
all_have ss (t ∷ ts) = has_number ss t && all_have ss ts

-- a type has no value type, where these have numbers: one inside it has none, or its size is none that values have
pub data NoValueType (types : Types) (ss : List Sized) (t : Sized) : Type 0 where
  no_number_inside : all_have ss (form_parts types (out-Sized t)) ≡ false → NoValueType types ss t
  sizes_too_wide : sizes_fit (out-Sized t) ≡ false → NoValueType types ss t

-- so one of several
pub record SomeNoValueType (types : Types) (ss ts : List Sized) : Type 0 where
  pub place : ℕ
  pub typ : Sized
  pub there : slice_get ts place ≡ Some typ
  pub why : NoValueType types ss typ

-- an error comes where memory is wanting, or for this reason
abbrev pub OrMemory : Type 0 → TableError → Type 0
OrMemory reason E.Memory = Unit {0}
OrMemory reason error = reason
