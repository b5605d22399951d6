-- The bytes of a whole run are those of the source meaning.
use Rattle.std.specs.Prelude.{ℕ, List, Option}
use Rattle.sail_outside.specs.Files.{Files}
use Rattle.sail_compile.specs.Meanings.{JibLeaves, jib}
use Rattle.sail_top.specs.Answer.{IsAnswer}
use Rattle.sail_top.specs.Ending.{Answered, AnsweredPart}
use Rattle.sail_top.specs.declared.status.Answer.{Answer}
use Rattle.sail_top.specs.declared.status.Status.{Status}
use Rattle.answer_meanings.specs.Source.{source}

-- what the program answers is what is answered by the texts' own meaning; or it refuses a text that the engine leaves
abbrev pub AnswersMeanTexts : Type 0
AnswersMeanTexts = (words : List (List ℕ)) (files : Option Files) (answer : Answer)
    → IsAnswer jib words files answer → IsAnswer (source JibLeaves) words files answer

-- so the bytes that a run of the program writes are those
abbrev pub BytesMeanTexts : Type 0
BytesMeanTexts = (words : List (List ℕ)) (files : Option Files) (given now : Option (List ℕ))
    → ((ended : Status) → Answered jib words files ended given now → Answered (source JibLeaves) words files ended given now)
    × (AnsweredPart jib words files given now → AnsweredPart (source JibLeaves) words files given now)
