-- Words have one answer over files that are told.
use Rattle.std.specs.Prelude.{◌≡◌, ◌⊎◌, ℕ, List, Option, Some}
use Rattle.sail_base.specs.declared.place.Place.{Place}
use Rattle.sail_grammar.specs.Model.{IsModel, IsRefused}
use Rattle.sail_grammar.specs.Symbol.{Sign}
use Rattle.sail_grammar.specs.declared.error.ParseError.{ParseError}
use Rattle.sail_outside.specs.Files.{Files}
use Rattle.sail_syntax.specs.declared.definitions.Def.{Def}
use Rattle.scattered.specs.Gathered.{gathered}
use Rattle.model_state.specs.Folds.{Meaning}
use Rattle.sail_words.specs.Line.{line_of}
use Rattle.sail_words.specs.declared.command.Command.{Command}
use Rattle.sail_words.specs.declared.command.Command.TheVariants as C
use Rattle.sail_compile.specs.Engines.{Meant}
use Rattle.sail_compile.specs.Meanings.{jib}
use Rattle.sail_compile.specs.Models.{AreAccepted}
use Rattle.sail_compile.specs.declared.models.Accepted.{Accepted}
use Rattle.sail_top.specs.Answer.{IsAnswer}
use Rattle.sail_top.specs.Ending.{IsSettled}
use Rattle.sail_top.specs.declared.status.Answer.{Answer}

-- tokens, wherever they end, are a model or are refused
abbrev pub AreDecided : Type 0
AreDecided = (signs : List Sign) (end : Place) → ((definitions : List Def) × IsModel signs definitions) ⊎ ((e : ParseError) × IsRefused signs end e)

-- an engine means something by the definitions of each accepted text, over the registers of its core, or leaves them
abbrev pub MeansOrLeaves : Meant → Type 0
MeansOrLeaves engine =
    (texts : List (List ℕ)) (made : Accepted) (accepted : AreAccepted texts made)
    → engine.leaves (gathered accepted.definitions)
    ⊎ ((model : Meaning) × engine.means (gathered accepted.definitions) model × (model.registers ≡ made.certified.core.registers))

-- what has an answer: words that run nothing; and those of a run, where the engine means something by each accepted text, or leaves it
abbrev pub HasAnswer : Meant → Option Command → Type 0
HasAnswer engine (Some (C.Run run)) = MeansOrLeaves engine
HasAnswer engine (Some (C.Synth synth)) = MeansOrLeaves engine
HasAnswer engine line = Unit {0}

abbrev pub AreAnswered : Meant → List (List ℕ) → Type 0
AreAnswered engine words = HasAnswer engine (line_of words)

-- such words have an answer of the program's engine over files that are told, if tokens are decided
abbrev pub HaveAnswer : Type 0
HaveAnswer = AreDecided → (words : List (List ℕ)) (files : Files) → AreAnswered jib words → (answer : Answer) × IsAnswer jib words (Some files) answer

-- and no other where they run nothing; nor where they do, if the engine means one thing by each text or leaves it
abbrev pub HaveNoOtherAnswer : Type 0
HaveNoOtherAnswer =
    (words : List (List ℕ)) (files : Files) (answer other : Answer) → IsSettled jib (line_of words)
    → IsAnswer jib words (Some files) answer → IsAnswer jib words (Some files) other → answer ≡ other
