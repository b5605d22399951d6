-- Widths of the parts of a concatenation `p @ q` (Sail language manual, "Pattern matching").
use Rattle.std.specs.Prelude.{Bool, true, false, ◌&&◌, List, [], ◌∷◌, Option, Some, None, option_map, if◌then◌else◌}
use Rattle.sail_base.specs.declared.place.Place.{Place}
use Rattle.sail_types.specs.Sums.{and_then, sum, zero_num}
use Rattle.sail_types.specs.declared.numbers.Con.TheVariants as C
use Rattle.sail_types.specs.declared.numbers.Num.{Num}
use Rattle.value_indices.specs.declared.indices.Indices.{Indices}
use Rattle.value_indices.specs.declared.indices.Indices.TheVariants as I
use Rattle.value_indices.specs.declared.notes.Fact.{Fact}
use Rattle.value_indices.specs.declared.notes.Made.TheVariants as Makes
use Rattle.value_indices.specs.Steps.{Walk, Conditions, bind, give, note, size_note, owe_under}
use Rattle.value_indices.specs.Opening.{at_most, equal, number_or_fresh}

-- the sum of those that are known, from the left; none where it can't be said
abbrev pub sum_of : Option Num → Num → Option Num
sum_of total w = and_then total (λ t. sum t w)

-- from this one on
abbrev pub sum_from : Option Num → List (Option Num) → Option Num
sum_from total [] = total
sum_from total (None ∷ ws) = sum_from total ws
sum_from total (Some w ∷ ws) = sum_from (sum_of total w) ws

-- from the first that is known; nothing comes to 0
abbrev pub first_sum : List (Option Num) → Option Num
first_sum [] = Some zero_num
first_sum (None ∷ ws) = first_sum ws
first_sum (Some w ∷ ws) = sum_from (Some w) ws

-- whether no part is left to have the rest
abbrev pub all_known : List (Option Num) → Bool
all_known [] = true
all_known (None ∷ ws) = false
all_known (Some w ∷ ws) = all_known ws

-- the parts make up the value, or leave some of it to one that isn't known
abbrev pub cut_condition : Num → Option Num → Bool → Conditions
cut_condition w total true = option_map (λ s. equal s w) total ∷ []
cut_condition w total false = option_map (λ s. at_most s w) total ∷ []

-- whether one part at most has the rest, and none where none may
abbrev pub one_rest : Bool → List (Option Num) → Bool
one_rest may [] = true
one_rest may (None ∷ ws) = may && one_rest false ws
one_rest may (Some w ∷ ws) = one_rest may ws

-- what is false where more than one part would have the rest: no model that was resolved has that
abbrev pub cut_conditions : Num → Option Num → List (Option Num) → Conditions
cut_conditions w total ws = if one_rest true ws then cut_condition w total (all_known ws) else Some (C.Truth false) ∷ []

-- bits of a width, whose size is noted where they are cut out
abbrev pub sized_bits : Place → Num → Walk Indices
sized_bits place n = bind (note (λ facts. size_note facts place (Makes.ByIndices (I.Bits n)))) (λ t. give (I.Bits n))

-- a variable stands for a width that can't be said
abbrev pub bits_part : Place → Option Num → Walk Indices
bits_part place w = bind (number_or_fresh w) (sized_bits place)

-- a part whose width isn't known has the rest
abbrev pub cut_width : Place → Option Num → Option Num → Walk Indices
cut_width place rest None = bits_part place rest
cut_width place rest (Some w) = bits_part place (Some w)

-- under what was in force before the parts
abbrev pub cut_owed : Place → List (Option Num) → Num → List Fact → Walk (Unit {0})
cut_owed place ws w earlier = owe_under earlier place (cut_conditions w (first_sum ws) ws)

-- ---- sums from the left

-- the sum of those before, if one is known, with one width more
abbrev pub with_width : Option (Option Num) → Option Num → Option (Option Num)
with_width total None = total
with_width None (Some w) = Some (Some w)
with_width (Some total) (Some w) = Some (sum_of total w)

-- with those that are behind
abbrev pub summed : Option (Option Num) → List (Option Num) → Option Num
summed None ws = first_sum ws
summed (Some total) ws = sum_from total ws
