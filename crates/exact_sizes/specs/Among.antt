-- Types whose sizes name no variables but some are the same where these are (Sail language manual, "Type variables").
use Rattle.std.specs.Prelude.{◌≡◌, ℕ, Bool, true, List}
use Rattle.sail_types.specs.declared.table.Types.{Types}
use Rattle.sail_types.specs.declared.values.Value.{Value}
use Rattle.value_indices.specs.declared.indices.Indices.{Indices}
use Rattle.value_indices.specs.declared.indices.Reading.{Reading}
use Rattle.size_values.specs.declared.constants.Constant.{Constant}
use Rattle.size_values.specs.declared.sized.Sized.{Sized}
use Rattle.size_values.specs.Sized.{reading_sized, value_sized}
use Rattle.size_laws.specs.Told.{reading_told}
use Rattle.told_sizes.specs.Among.{reading_among, value_among}

abbrev pub SameAmong : (ℕ → Bool) → (ℕ → Constant) → (ℕ → Constant) → Type 0
SameAmong has of to = (i : ℕ) → has i ≡ true → of i ≡ to i

abbrev pub SizesHang : Type 0
SizesHang = (types : Types) (own : List Sized) (has : ℕ → Bool) (of to : ℕ → Constant) → SameAmong has of to
    → ((i : Indices) → value_among types has i ≡ true → value_sized types own of i ≡ value_sized types own to i)
    × ((r : Reading) → reading_among types has r ≡ true → reading_sized types own of r ≡ reading_sized types own to r)

-- so are the types at which values are made
abbrev pub ToldHang : Type 0
ToldHang = (types : Types) (own : List Sized) (has : ℕ → Bool) (of to : ℕ → Constant) → SameAmong has of to → (r : Reading)
    → reading_among types has r ≡ true → (v : Value) → reading_told types own of r v ≡ reading_told types own to r v
