-- The bytes that are left of a begun file, and those that a sink was given, each where it is told.
use Rattle.std.specs.Prelude.{◌≡◌, ℕ, ◌+◌, ◌<◌, ◌≤◌, Option, Some, None}
use Rattle.std.specs.Prelude.{List, [], ◌++◌, length, take, drop}
use Rattle.sail_outside.specs.Files.{Files, lookup}

-- nothing is left, where it is told
abbrev pub IsUsedUp : Option (List ℕ) → Type 0
IsUsedUp None = Unit {0}
IsUsedUp (Some bytes) = bytes ≡ []

-- the files, if told, have the name, and its bytes are what is left
abbrev pub Begins : Option Files → List ℕ → Option (List ℕ) → Type 0
Begins None name left = Unit {0}
Begins (Some files) name left =
    (bytes : List ℕ) × (lookup files name ≡ Some bytes) × (left ≡ Some bytes)

-- the first n bytes left, if told, came into the front of the buffer; none at the end alone
abbrev pub Takes : Option (List ℕ) → Option (List ℕ) → ℕ → List ℕ → Type 0
Takes None now n buffer = Unit {0}
Takes (Some left) now n buffer =
    (n ≤ length left) × (take n buffer ≡ take n left)
    × (now ≡ Some (drop n left)) × (n ≡ 0 → 0 < length buffer → left ≡ [])

-- the bytes are all that was left, if told, and nothing is left
abbrev pub TookAll : Option (List ℕ) → List ℕ → Option (List ℕ) → Type 0
TookAll None bytes now = Unit {0}
TookAll (Some left) bytes now = (left ≡ bytes) × (now ≡ Some [])

-- more than `limit` bytes were left, if told, and one more than `limit` were taken
abbrev pub TookPast : Option (List ℕ) → ℕ → Option (List ℕ) → Type 0
TookPast None limit now = Unit {0}
TookPast (Some left) limit now = (limit < length left) × (now ≡ Some (drop (limit + 1) left))

-- the files, if told, have exactly these bytes at the name, and nothing of them is left
abbrev pub ReadWhole : Option Files → List ℕ → List ℕ → Option (List ℕ) → Type 0
ReadWhole None name bytes left = Unit {0}
ReadWhole (Some files) name bytes left = (lookup files name ≡ Some bytes) × (left ≡ Some [])

-- the file, if told, has more than `limit` bytes, and one more than `limit` were taken
abbrev pub PassedLimit : Option Files → List ℕ → ℕ → Option (List ℕ) → Type 0
PassedLimit None name limit left = Unit {0}
PassedLimit (Some files) name limit left =
    (bytes : List ℕ) × (lookup files name ≡ Some bytes) × (limit < length bytes)
    × (left ≡ Some (drop (limit + 1) bytes))

-- the whole piece was appended to the bytes given, if told
abbrev pub Sent : Option (List ℕ) → List ℕ → Option (List ℕ) → Type 0
Sent None piece now = Unit {0}
Sent (Some given) piece now = now ≡ Some (given ++ piece)

-- some front of the piece was appended to the bytes given, if told
abbrev pub SentPart : Option (List ℕ) → List ℕ → Option (List ℕ) → Type 0
SentPart None piece now = Unit {0}
SentPart (Some given) piece now = (n : ℕ) × (now ≡ Some (given ++ take n piece))
