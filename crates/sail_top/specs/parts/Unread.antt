-- How the reading of files ends, over the files that are held.
use Rattle.std.specs.Prelude.{◌≡◌, ℕ, List, Option, Some, None}
use Rattle.sail_outside.specs.Files.{Files}
use Rattle.sail_outside.specs.Faults.{Rose}
use Rattle.sail_outside.specs.declared.errors.ReadError.{ReadError}
use Rattle.sail_outside.specs.declared.errors.ReadError.TheVariants as read
use Rattle.sail_top.specs.Answer.{no_file, too_long}
use Rattle.sail_top.specs.Reading.{Wanted, ReadEnd, absent, long, Contents, contents_at, reading, IsLeft}
use Rattle.sail_top.specs.declared.status.Answer.{Answer}

-- the reading of files ends so, and this is left; where the files aren't told, it does over some contents
abbrev pub Ends : Option Files → List Wanted → ReadEnd → Option (List ℕ) → Type 0
Ends (Some files) wanted ending left =
    (reading 0 wanted (contents_at files wanted) ≡ ending) × IsLeft (contents_at files wanted) ending left
Ends None wanted ending left = (contents : Contents) × (reading 0 wanted contents ≡ ending)

-- the reading stops at the file of this number and name, for this cause
abbrev pub StopsAt : Option Files → List Wanted → ℕ → List ℕ → ReadError → Option (List ℕ) → ℕ → ℕ → Type 0
StopsAt held wanted number name read.Missing left before now = Ends held wanted (absent number name) left
StopsAt held wanted number name (read.TooLong limit) left before now = Ends held wanted (long number name limit) left
StopsAt held wanted number name read.Fault left before now = Rose before now
StopsAt held wanted number name read.OutOfMemory left before now = Unit {0}

-- the answer where the file of this number and name could not be read for this cause
abbrev pub AnswersUnread : ℕ → List ℕ → ReadError → Answer → Type 0
AnswersUnread number name read.Missing answer = answer ≡ no_file number name
AnswersUnread number name (read.TooLong limit) answer = answer ≡ too_long number name limit
AnswersUnread number name read.Fault answer = ⊥
AnswersUnread number name read.OutOfMemory answer = ⊥
