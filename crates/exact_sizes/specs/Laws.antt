-- What holds where sizes are constants for certain.
use Rattle.std.specs.Prelude.{◌≡◌, ℕ, ℤ, true, List, length, Some}
use Rattle.sail_types.specs.Belongs.{Reading as Closed}
use Rattle.sail_types.specs.Numbers.{Positive}
use Rattle.sail_types.specs.declared.numbers.Index.{Index}
use Rattle.sail_types.specs.declared.table.Types.{Types}
use Rattle.sail_types.specs.declared.types.Typ.{Typ}
use Rattle.sail_types.specs.declared.values.Value.{Value}
use Rattle.value_indices.specs.declared.indices.Indices.{Indices}
use Rattle.value_indices.specs.declared.indices.Reading.{Reading}
use Rattle.value_indices.specs.declared.indices.Reading.TheVariants as R
use Rattle.size_values.specs.declared.constants.Constant.{Constant}
use Rattle.size_values.specs.declared.sized.Sized.{Sized}
use Rattle.size_values.specs.Numbers.{number_in}
use Rattle.size_values.specs.Sized.{reading_sized, value_sized}
use Rattle.value_laws.specs.Belonging.{has, is_of, standing}
use Rattle.size_laws.specs.Known.{all_numbers}
use Rattle.size_laws.specs.Settled.{Settled, Tells, of_reading}
use Rattle.checked_meaning.specs.Fits.{AllFit, has_sizes}
use Rattle.told_sizes.specs.Exact.{reading_settles, reading_tells}
use Rattle.told_sizes.specs.Passing.{reading_passes, value_passes}

-- what is known by one is known by the other
abbrev pub More : (ℕ → Constant) → (ℕ → Constant) → Type 0
More of to = (i : ℕ) (z : ℤ) → number_in (of i) ≡ Some z → number_in (to i) ≡ Some z

-- what is known are these integers
abbrev pub Stands : (ℕ → Constant) → (ℕ → ℤ) → Type 0
Stands of f = (i : ℕ) (z : ℤ) → number_in (of i) ≡ Some z → f i ≡ z

-- types under constants are the same where more is known
abbrev pub SizesStand : Type 0
SizesStand = (types : Types) (own : List Sized) (m : ℕ) (of to : ℕ → Constant) → More of to
    → ((i : Indices) → value_passes types m of i ≡ true → value_sized types own of i ≡ value_sized types own to i)
    × ((r : Reading) → reading_passes types m of r ≡ true → reading_sized types own of r ≡ reading_sized types own to r)

-- a value of some indices, or of a type, has their sizes, where values of the function's own Type variables have theirs
abbrev pub ValuesFit : Type 0
ValuesFit = (types : Types) (past : Positive) (f : ℕ → ℤ) (own : List Closed) (ss : List Sized) → AllFit types own ss → (of : ℕ → Constant)
    → Stands of f
    → ((i : Indices) (v : Value) → value_passes types (length ss) of i ≡ true → has types (standing past f) own i v ≡ true
    → has_sizes types v (value_sized types ss (all_numbers f) i) ≡ true)
    × ((r : Reading) (v : Value) → reading_passes types (length ss) of r ≡ true → is_of types (standing past f) own r v ≡ true
    → has_sizes types v (reading_sized types ss (all_numbers f) r) ≡ true)

-- the sizes of a type stay what they are where a value of it is opened
abbrev pub TypesSettle : Type 0
TypesSettle = (types : Types) (own : List Sized) (m : ℕ) (f : ℕ → ℤ) (of : ℕ → Constant) → Stands of f → (r : Reading)
    → reading_settles types m of r ≡ true → Settled types own (all_numbers f) (of_reading r)

-- the type at which a value of a type is made is that at which it is opened
abbrev pub TypesTell : Type 0
TypesTell = (types : Types) (own : List Sized) (m : ℕ) (f : ℕ → ℤ) (of : ℕ → Constant) → Stands of f → (t : Typ) (is : List Index) (rs : List Reading)
    → reading_tells types m of (R.Of t is rs) ≡ true → Tells types own f rs is t
