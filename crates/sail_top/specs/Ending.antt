-- What the clauses of the top call say of its status, of the bytes written and of the files.
use Rattle.std.specs.Prelude.{◌≡◌, ℕ, ◌<◌, List, [], length, Option, Some, None}
use Rattle.sail_outside.specs.Files.{Files}
use Rattle.sail_outside.specs.Bytes.{Sent, SentPart}
use Rattle.sail_compile.specs.Engines.{IsSingle, Meant}
use Rattle.sail_top.specs.Answer.{IsAnswer}
use Rattle.sail_words.specs.declared.command.Command.{Command}
use Rattle.sail_words.specs.declared.command.Command.TheVariants as C
use Rattle.sail_top.specs.Reading.{IsLeft, contents_at, wanted_by, reading}
use Rattle.sail_top.specs.declared.status.Answer.{Answer}
use Rattle.sail_top.specs.declared.status.Status.{Status}
use Rattle.sail_top.specs.declared.status.Status.TheVariants as status

-- a status that is answered: not one of a fault or of want of memory
abbrev pub IsPlain : Status → Type 0
IsPlain status.ReadFault = ⊥
IsPlain status.WriteFault = ⊥
IsPlain status.OutOfMemory = ⊥
IsPlain _ = Unit {0}

-- the status is that of the answer, and all the answer's bytes were written
abbrev pub Answered : Meant → List (List ℕ) → Option Files → Status → Option (List ℕ) → Option (List ℕ) → Type 0
Answered engine words held ended given now =
    (bytes : List ℕ) × IsAnswer engine words held (record { status = ended; bytes = bytes }) × Sent given bytes now

-- a front of the answer's bytes was written
abbrev pub AnsweredPart : Meant → List (List ℕ) → Option Files → Option (List ℕ) → Option (List ℕ) → Type 0
AnsweredPart engine words held given now = (answer : Answer) × IsAnswer engine words held answer × SentPart given answer.bytes now

-- what has no other answer: words that run nothing; and those of a run, where the engine means one thing by each text, or leaves it
abbrev pub IsSettled : Meant → Option Command → Type 0
IsSettled engine (Some (C.Run run)) = IsSingle engine
IsSettled engine (Some (C.Synth synth)) = IsSingle engine
IsSettled engine line = Unit {0}

-- the ending against the answer: it is the answer's status with all its bytes written, but at a fault or
-- want of memory, where a front of them is written, or nothing where it is a fault of reading
abbrev pub Completes : Answer → Status → Option (List ℕ) → Option (List ℕ) → Type 0
Completes answer status.OutOfMemory given now = SentPart given answer.bytes now
Completes answer status.WriteFault given now = SentPart given answer.bytes now
Completes answer status.ReadFault given now = now ≡ given
Completes answer ended given now = (ended ≡ answer.status) × Sent given answer.bytes now

-- the words want no file: they are no command, or one that has none
abbrev pub WantsNone : Option Command → Type 0
WantsNone None = Unit {0}
WantsNone (Some command) = wanted_by command ≡ []

-- what is left of the files of a command, where they are told and one at least was to be read
abbrev pub Leaves : Option Command → Option Files → Option (List ℕ) → Type 0
Leaves None held left = Unit {0}
Leaves (Some command) None left = Unit {0}
Leaves (Some command) (Some files) left =
    let wanted = wanted_by command in
    0 < length wanted → IsLeft (contents_at files wanted) (reading 0 wanted (contents_at files wanted)) left
