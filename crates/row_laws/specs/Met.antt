-- When the notes of a walk are met: their goals are true and their sizes are within the limits, wherever what is in force there is true (Sail
-- language manual, "Bitvectors", "Vectors").
use Rattle.std.specs.Prelude.{◌≡◌, ◌≤ℤ◌, ℕ, ℤ, pos, true, List, [], ◌∷◌}
use Rattle.sail_types.specs.Numbers.{Assignment, Positive, number, true_in}
use Rattle.value_indices.specs.declared.indices.Indices.{Indices, out-Indices}
use Rattle.value_indices.specs.declared.indices.Indices.TheOpen as W
use Rattle.value_indices.specs.declared.indices.Indices.TheOpen.{Indices-F}
use Rattle.value_indices.specs.declared.indices.Reading.{Reading}
use Rattle.value_indices.specs.declared.notes.Made.{Made}
use Rattle.value_indices.specs.declared.notes.Made.TheVariants as Makes
use Rattle.value_indices.specs.Steps.{Note, goal_note, size_note}
use Rattle.value_laws.specs.Belonging.{Integers, standing}
use Rattle.value_laws.specs.Known.{InForce, given_in}

-- a width is from 0 to 128, a length from 0 to 4,096
abbrev pub IsSize : ℤ → ℕ → Type 0
IsSize z largest = (pos 0 ≤ℤ z) × (z ≤ℤ pos largest)

abbrev pub FormFits : Assignment → Indices-F Indices Reading → Type 0
FormFits mu (W.Bits t) = IsSize (number mu t) 128
FormFits mu (W.Vector t r) = IsSize (number mu t) 4096
FormFits mu i = Unit {0}

-- of what is made by a type nothing is said here
abbrev pub SizeFits : Assignment → Made → Type 0
SizeFits mu (Makes.ByIndices i) = FormFits mu (out-Indices i)
SizeFits mu (Makes.ByType r) = Unit {0}

-- a note, where the numbers of these variables and of no others are noted
abbrev pub IsMet : Positive → List ℕ → Integers → Note → Type 0
IsMet past given f (goal_note facts place goal) = given_in facts ≡ given → InForce past f facts → true_in (standing past f) goal ≡ true
IsMet past given f (size_note facts place made) = given_in facts ≡ given → InForce past f facts → SizeFits (standing past f) made
IsMet past given f note = Unit {0}

abbrev pub AllMet : Positive → List ℕ → Integers → List Note → Type 0
AllMet past given f [] = Unit {0}
AllMet past given f (n ∷ ns) = IsMet past given f n × AllMet past given f ns
