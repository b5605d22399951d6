-- Opening a value keeps its type, all of whose sizes are constants.
use Rattle.std.specs.Prelude.{◌≡◌, ℕ, ℤ, Bool, true, List, map, slice_get, Some}
use Rattle.sail_types.specs.Belongs.{Reading as Closed}
use Rattle.sail_types.specs.Named.{payload as payload_type}
use Rattle.sail_types.specs.Numbers.{Positive}
use Rattle.sail_types.specs.Sums.{read}
use Rattle.sail_types.specs.declared.numbers.Index.{Index}
use Rattle.sail_types.specs.declared.numbers.Num.{Num}
use Rattle.sail_types.specs.declared.table.Types.{Types}
use Rattle.sail_types.specs.declared.types.Typ.{Typ}
use Rattle.sail_types.specs.declared.values.Value.{Value}
use Rattle.sail_core.specs.Making.{component, payload, one_item}
use Rattle.value_indices.specs.declared.indices.Indices.{Indices}
use Rattle.value_indices.specs.declared.indices.Indices.TheVariants as I
use Rattle.value_indices.specs.declared.indices.Naming.{Naming}
use Rattle.value_indices.specs.declared.indices.Reading.{Reading}
use Rattle.value_indices.specs.declared.indices.Reading.TheVariants as R
use Rattle.value_indices.specs.declared.notes.Fact.{Fact}
use Rattle.value_indices.specs.Opening.{opening}
use Rattle.size_values.specs.declared.constants.Constant.{Constant}
use Rattle.size_values.specs.declared.sized.Sized.{Sized}
use Rattle.size_values.specs.Numbers.{argument_of}
use Rattle.size_values.specs.Sized.{named_numbers, reading_sized, typ_sized, value_sized}
use Rattle.checked_meaning.specs.Items.{constant_of, part_typ}
use Rattle.value_laws.specs.Belonging.{has, is_of, standing}
use Rattle.size_laws.specs.Known.{AllKnown, IsWithin, all_numbers}
use Rattle.size_laws.specs.Settled.{Says, Settled, Tells, of_reading, constants, stood}
use Rattle.size_laws.specs.Told.{reading_told}

-- a value of a type is opened to indices of the same sized type
abbrev pub OpeningKeepsSizes : Type 0
OpeningKeepsSizes = (types : Types) (own : List Sized) (of : ℕ → Constant) (r : Reading) → Settled types own of (of_reading r)
    → (tells : Bool) (name : Naming) (facts : List Fact) (n : ℕ)
    → value_sized types own of (opening r tells name facts n).value ≡ reading_sized types own of r

-- so is a value of a type that tells the numbers of what it binds at its front, to indices of the type that it tells
abbrev pub OpeningTellsSizes : Type 0
OpeningTellsSizes = (types : Types) (past : Positive) (f : ℕ → ℤ) (closed : List Closed) (own : List Sized) (t : Typ) (is : List Index)
    (rs : List Reading) → Tells types own f rs is t → (v : Value) → is_of types (standing past f) closed (R.Of t is rs) v ≡ true
    → (tells : Bool) (name : Naming) (facts : List Fact) (n : ℕ)
    → has types (standing past f) closed (opening (R.Of t is rs) tells name facts n).value v ≡ true
    → reading_told types own (all_numbers f) (R.Of t is rs) v ≡ value_sized types own (all_numbers f) (opening (R.Of t is rs) tells name facts n).value

-- a part's type is that of its indices, or of its type: a component's, an item's, and a payload's, whose sizes hang on no more of the union's
-- arguments than are noted in its type
pub record PartsKept (types : Types) (own : List Sized) (of : ℕ → Constant) : Type 0 where
  pub of_tuple : (is : List Indices) (k : ℕ) (i : Indices) → slice_get is k ≡ Some i
      → part_typ types (component k) (value_sized types own of (I.Tuple is)) ≡ value_sized types own of i
  pub of_parts : (rs : List Reading) (k : ℕ) (r : Reading) → slice_get rs k ≡ Some r
      → part_typ types (component k) (reading_sized types own of (R.Parts rs)) ≡ reading_sized types own of r
  pub of_list : (r : Reading) → part_typ types one_item (value_sized types own of (I.List r)) ≡ reading_sized types own of r
  pub of_vector : (t : Num) (r : Reading) → part_typ types one_item (value_sized types own of (I.Vector t r)) ≡ reading_sized types own of r
  pub of_union : (u c : ℕ) (is : List Index) (rs : List Reading) (t : Typ) → payload_type types u c ≡ Some t
      → typ_sized types (map (reading_sized types own of) rs) t (map constant_of (named_numbers types u (constants types own of is)))
      ≡ typ_sized types (stood types own of rs) t (constants types own of is)
      → part_typ types (payload u c) (value_sized types own of (I.Named u is rs)) ≡ reading_sized types own of (R.Of t is rs)

abbrev pub PartsKeepSizes : Type 0
PartsKeepSizes = (types : Types) (own : List Sized) (of : ℕ → Constant) → PartsKept types own of

-- where what the variables of a type stand for is known, and a size is within the limits as it is said and under these constants, it is one integer
abbrev pub SizesAreSaid : Type 0
SizesAreSaid = (types : Types) (own : List Sized) (f : ℕ → ℤ) (is : List Index) (t u : Num) → AllKnown (all_numbers f) is → read is t ≡ Some u
    → IsWithin (all_numbers f) u → IsWithin (argument_of (constants types own (all_numbers f) is)) t
    → Says types own (all_numbers f) is (constants types own (all_numbers f) is) t
