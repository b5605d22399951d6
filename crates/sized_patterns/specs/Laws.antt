-- The types that values carry in patterns, all of whose sizes are constants, are those of their indices: where a value is taken out, and of its parts.
use Rattle.std.specs.Prelude.{◌≡◌, ◌≤◌, ℕ, pos, Bool, true, List, map, Some}
use Rattle.sail_types.specs.Belongs.{Reading as Closed}
use Rattle.sail_types.specs.Named.{payload as payload_type}
use Rattle.sail_types.specs.Numbers.{Positive}
use Rattle.sail_types.specs.declared.numbers.Index.{Index}
use Rattle.sail_types.specs.declared.numbers.Num.{Num}
use Rattle.sail_types.specs.declared.table.Types.{Types}
use Rattle.sail_types.specs.declared.types.Typ.{Typ}
use Rattle.sail_types.specs.declared.values.Value.{Value}
use Rattle.value_indices.specs.declared.indices.Indices.{Indices, out-Indices}
use Rattle.value_indices.specs.declared.indices.Indices.TheOpen as W
use Rattle.value_indices.specs.declared.indices.Indices.TheOpen.{Indices-F}
use Rattle.value_indices.specs.declared.indices.Naming.{Naming}
use Rattle.value_indices.specs.declared.indices.Reading.{Reading}
use Rattle.value_indices.specs.declared.notes.Fact.{Fact}
use Rattle.value_indices.specs.declared.notes.Made.{Made}
use Rattle.value_indices.specs.declared.notes.Made.TheVariants as Makes
use Rattle.value_indices.specs.Opening.{opening}
use Rattle.size_values.specs.Numbers.{value_of}
use Rattle.size_values.specs.declared.sized.Sized.{Sized}
use Rattle.size_values.specs.Sized.{named_numbers, reading_sized, typ_sized, value_sized}
use Rattle.size_laws.specs.Known.{all_numbers}
use Rattle.size_laws.specs.Settled.{constants, stood}
use Rattle.size_laws.specs.Told.{reading_told}
use Rattle.checked_meaning.specs.Items.{constant_of}
use Rattle.value_laws.specs.Belonging.{Integers, has, is_of, standing}
use Rattle.pattern_laws.specs.Typing.{AsMany, IsKept}

-- a width, where no number past the largest integer is on the way to it
pub record IsWidth (g : Integers) (t : Num) : Type 0 where
  pub width : ℕ
  pub is_so : value_of (all_numbers g) t ≡ Some (pos width)
  pub most : width ≤ 128

module _ (types : Types) (own : List Sized) where
  -- the type of a value of these indices, and of a type that isn't opened
  abbrev pub Fits : Integers → Indices → Sized → Type 0
  Fits g i s = s ≡ value_sized types own (all_numbers g) i

  abbrev pub Reads : Integers → Reading → Sized → Type 0
  Reads g r s = s ≡ reading_sized types own (all_numbers g) r

  -- sizes that are noted fit: those of bits are widths, and a value of a type is opened at the type that it tells
  abbrev pub FormFits : Integers → Indices-F Indices Reading → Type 0
  FormFits g (W.Bits t) = IsWidth g t
  FormFits g form = Unit {0}

  abbrev pub SizesFit : Positive → List Closed → Integers → Made → Type 0
  SizesFit past closed g (Makes.ByType r) = (v : Value) → is_of types (standing past g) closed r v ≡ true
      → (tells : Bool) (naming : Naming) (facts : List Fact) (n : ℕ) → has types (standing past g) closed (opening r tells naming facts n).value v ≡ true
      → reading_told types own (all_numbers g) r v ≡ value_sized types own (all_numbers g) (opening r tells naming facts n).value
  SizesFit past closed g (Makes.ByIndices i) = FormFits g (out-Indices i)

-- no size in a payload hangs on an argument of its union that isn't noted in the union's type
abbrev pub PayloadsHang : Types → List Sized → Type 0
PayloadsHang types own = (g : Integers) (u c : ℕ) (is : List Index) (rs : List Reading) (t : Typ) → payload_type types u c ≡ Some t → AsMany types u rs
    → typ_sized types (map (reading_sized types own (all_numbers g)) rs) t
    (map constant_of (named_numbers types u (constants types own (all_numbers g) is)))
    ≡ typ_sized types (stood types own (all_numbers g) rs) t (constants types own (all_numbers g) is)

abbrev pub PartsStaySized : Type 0
PartsStaySized = (types : Types) (past : Positive) (closed : List Closed) (own : List Sized) → PayloadsHang types own
    → IsKept types past closed (SizesFit types own past closed) (Fits types own) (Reads types own)
