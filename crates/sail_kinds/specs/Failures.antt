-- Which of all failures of a text is its refusal: the one at the least place, and at one place the one of the lower number.
use Rattle.std.specs.Prelude.{◌≡◌, ℕ, Bool, true, false, ◌&&◌, ◌||◌, nat_lt, nat_eq, if◌then◌else◌, List, [], ◌∷◌, Option, Some, None, Contains, All}
use Rattle.sail_base.specs.declared.place.Place.{Place}
use Rattle.sail_kinds.specs.declared.error.TableError.{TableError}
use Rattle.sail_kinds.specs.declared.error.TableError.TheVariants as error

-- where a failure stands; want of memory is none of a text, and stands before all
abbrev pub place_of : TableError → Place
place_of (error.Clash place name) = place
place_of (error.NoName place name) = place
place_of (error.IllKinded place mismatch) = place
place_of (error.MeasureMissing place name) = place
place_of (error.EntryMissing place name) = place
place_of (error.MappingCycle place name) = place
place_of error.OutOfMemory = record { file = 0; line = 0; column = 0 }

-- the number that is printed
abbrev pub number_of : TableError → ℕ
number_of (error.Clash place name) = 9
number_of (error.NoName place name) = 10
number_of (error.IllKinded place mismatch) = 11
number_of (error.MeasureMissing place name) = 12
number_of (error.EntryMissing place name) = 19
number_of (error.MappingCycle place name) = 24
number_of error.OutOfMemory = 0

-- by what failures are ordered: file, line, column, then the number
abbrev pub position_of : TableError → List ℕ
position_of e = (place_of e).file ∷ (place_of e).line ∷ (place_of e).column ∷ number_of e ∷ []

-- whether a list of numbers stands before another in the order of words
abbrev pub is_less : List ℕ → List ℕ → Bool
is_less [] [] = false
is_less [] (y ∷ ys) = true
is_less (x ∷ xs) [] = false
is_less (x ∷ xs) (y ∷ ys) = nat_lt x y || (nat_eq x y && is_less xs ys)

abbrev pub is_before : TableError → TableError → Bool
is_before e f = is_less (position_of e) (position_of f)

-- the one that was kept, unless the new one stands before it
abbrev pub earlier : Option TableError → TableError → Option TableError
earlier None e = Some e
earlier (Some kept) e = if is_before e kept then Some e else Some kept

-- the first of some failures and of one that was kept before
abbrev pub first_failure : Option TableError → List TableError → Option TableError
first_failure kept [] = kept
first_failure kept (e ∷ es) = first_failure (earlier kept e) es

-- it is one of them, and none of them stands before it
abbrev pub IsFirst : List TableError → TableError → Type 0
IsFirst es e = Contains es e × All (λ other. is_before other e ≡ false) es
