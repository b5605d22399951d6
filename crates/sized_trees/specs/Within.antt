-- Sizes that are constants within their limits (Sail language manual, "Bitvectors", "Vectors").
use Rattle.std.specs.Prelude.{ℕ, pos, int_le, Bool, true, false, ◌&&◌, List}
use Rattle.std.specs.List.{list_all}
use Rattle.size_values.specs.declared.constants.Constant.{Constant}
use Rattle.size_values.specs.declared.constants.Constant.TheVariants as C
use Rattle.size_values.specs.declared.sizes.Size.{Size}

-- a constant that isn't below 0 or past its limit
abbrev pub number_within : ℕ → Constant → Bool
number_within largest (C.Number z) = int_le (pos 0) z && int_le z (pos largest)
number_within largest c = false

abbrev pub is_within : Size → Bool
is_within s = number_within s.largest s.number

abbrev pub all_within : List Size → Bool
all_within ss = list_all is_within ss

-- a number that is one
abbrev pub is_number : Constant → Bool
is_number (C.Number z) = true
is_number c = false

abbrev pub all_numbers : List Constant → Bool
all_numbers cs = list_all is_number cs
