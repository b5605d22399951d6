-- What words come to.
use Rattle.std.specs.Prelude.{ℕ, List, Some}
use Rattle.sail_outside.specs.Files.{Files}
use Rattle.sail_top.specs.Meanings.{jib}
use Rattle.sail_top.specs.Answer.{IsAnswer}
use Rattle.sail_top.specs.laws.OneAnswer.{AreAnswered}
use Rattle.sail_top.specs.declared.status.Answer.{Answer}

-- words have an answer of the program's engine over files that are told: those that run nothing; and those of a run, where the engine means something by
-- each accepted text, or leaves it
abbrev pub WordsHaveAnAnswer : Type 0
WordsHaveAnAnswer = (words : List (List ℕ)) (files : Files) → AreAnswered jib words → (answer : Answer) × IsAnswer jib words (Some files) answer
