-- Why a text can't be gathered: the first definition, in text order, that fails.
use Rattle.std.specs.Prelude.{◌≡◌, ℕ, Bool, true, false, if◌then◌else◌, List, [], ◌∷◌, Option, Some, None, is_none}
use Rattle.std.specs.List.{list_any}
use Rattle.std.specs.Option.{option_or}
use Rattle.sail_base.specs.declared.place.Place.{Place}
use Rattle.sail_syntax.specs.Places.{definition_place}
use Rattle.sail_syntax.specs.declared.definitions.Def.{Def}
use Rattle.scattered.specs.declared.error.ScatterError.{ScatterError}
use Rattle.scattered.specs.declared.error.ScatterError.TheVariants as error
use Rattle.scattered.specs.Openings.{Role, Opens, Continues, Ends, Stands, role, next_number}
use Rattle.scattered.specs.Gathered.{Part, parts, parts_of}

-- whether a definition is an `end`
abbrev pub is_end : Role → Bool
is_end (Ends name) = true
is_end r = false

-- whether the definition of a number has an `end`
abbrev pub is_ended : List Part → ℕ → Bool
is_ended all number = list_any (λ d. is_end (role d)) (parts_of all number)

-- why a definition of this role and place fails: an opening has no `end`, a clause or an `end` has no opening
abbrev pub failure : Role → Place → Option ℕ → Bool → Option ScatterError
failure (Opens scattered name) place opening ended = if ended then None else Some (error.Unended place name)
failure (Continues scattered name) place opening ended = if is_none opening then Some (error.NoOpening place name) else None
failure (Ends name) place opening ended = if is_none opening then Some (error.NoOpening place name) else None
failure Stands place opening ended = None

-- why a part fails, whose number in the gathered text would be this one
abbrev pub part_failure : (ℕ → Bool) → ℕ → Part → Option ScatterError
part_failure ended number part = failure (role part.0) (definition_place part.0) part.1 (ended number)

-- the failure of the first part that fails
abbrev pub first_failure : (ℕ → Bool) → ℕ → List Part → Option ScatterError
first_failure ended number [] = None
first_failure ended number (part ∷ rest) =
    option_or (part_failure ended number part) (first_failure ended (next_number (role part.0) number) rest)

-- the failure of the first part of all that fails
abbrev pub parts_failure : List Part → Option ScatterError
parts_failure all = first_failure (is_ended all) 0 all

-- why a text can't be gathered, where it can't
abbrev pub refusal : List Def → Option ScatterError
refusal text = parts_failure (parts text)

-- an error is this refusal; want of memory says nothing of the text
abbrev pub IsRefusal : Option ScatterError → ScatterError → Type 0
IsRefusal why error.OutOfMemory = Unit {0}
IsRefusal why e = why ≡ Some e
