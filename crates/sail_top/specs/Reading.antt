-- The files that a command reads, each whole, and how the reading of them ends.
use Rattle.std.specs.Prelude.{◌≡◌, ℕ, ◌+◌, nat_le, if◌then◌else◌, List, [], ◌∷◌, ◌++◌, length, map, drop, slice_get, Option, Some, None}
use Rattle.sail_outside.specs.Files.{Files, lookup}
use Rattle.sail_outside.specs.Bytes.{IsUsedUp}
use Rattle.sail_words.specs.declared.command.Command.{Command}
use Rattle.sail_words.specs.declared.command.Command.TheVariants as C

-- a file that is wanted: its name, and how many bytes it may have
pub record Wanted : Type 0 where
  pub name : List ℕ
  pub limit : ℕ

abbrev pub wanted_model : List ℕ → Wanted
wanted_model name = record { name = name; limit = 4194304 }

abbrev pub wanted_elf : List ℕ → Wanted
wanted_elf name = record { name = name; limit = 67108864 }

-- the files of a command in the order of reading: the models in the order of the words, then the program, which `run` alone has; none for
-- `synth`
abbrev pub wanted_by : Command → List Wanted
wanted_by (C.Run run) = map wanted_model run.models ++ wanted_elf run.elf ∷ []
wanted_by (C.Check models) = map wanted_model models
wanted_by (C.Certs models) = map wanted_model models
wanted_by (C.Synth synth) = []

-- what is held at each file of a list: its bytes, or nothing
abbrev pub Contents : Type 0
Contents = List (Option (List ℕ))

-- what files hold at the names that are wanted
abbrev pub contents_at : Files → List Wanted → Contents
contents_at files wanted = map (λ file. lookup files file.name) wanted

-- how the reading of files ends: with the bytes of all, or at the first that isn't held or is too long, by
-- its number from 0 and its name, and the limit that it passes
pub data ReadEnd : Type 0 where
  whole : List (List ℕ) → ReadEnd
  absent : ℕ → List ℕ → ReadEnd
  long : ℕ → List ℕ → ℕ → ReadEnd

-- the ending where these bytes were read before
abbrev pub behind : List ℕ → ReadEnd → ReadEnd
behind bytes (whole rest) = whole (bytes ∷ rest)
behind bytes (absent number name) = absent number name
behind bytes (long number name limit) = long number name limit

-- the reading of files one after another, the first of this number
abbrev pub reading : ℕ → List Wanted → Contents → ReadEnd
reading number [] contents = whole []
reading number (file ∷ files) [] = absent number file.name
reading number (file ∷ files) (None ∷ contents) = absent number file.name
reading number (file ∷ files) (Some bytes ∷ contents) =
    if nat_le (length bytes) file.limit then behind bytes (reading (number + 1) files contents)
    else long number file.name file.limit

-- what is then left of the file that was begun last: nothing where all were read or it isn't held, and of
-- a file that is too long what stands behind its limit and one byte more
abbrev pub IsLeft : Contents → ReadEnd → Option (List ℕ) → Type 0
IsLeft contents (whole _) left = left ≡ Some []
IsLeft contents (absent number name) left = IsUsedUp left
IsLeft contents (long number name limit) left =
    (bytes : List ℕ) × (slice_get contents number ≡ Some (Some bytes)) × (left ≡ Some (drop (limit + 1) bytes))
