-- Files of which those of models are as short as a model's text may be.
use Rattle.std.specs.Prelude.{ℕ, List, [], ◌∷◌}
use Rattle.std.specs.List.{All}
use Rattle.model_tokens.specs.Files.{IsShort}
use Rattle.sail_words.specs.declared.command.Command.{Command}
use Rattle.sail_words.specs.declared.command.Command.TheVariants as C

-- each file but the last is a text of a model
abbrev pub AreShortButLast : List (List ℕ) → Type 0
AreShortButLast [] = Unit {0}
AreShortButLast (file ∷ []) = Unit {0}
AreShortButLast (text ∷ next ∷ files) = IsShort text × AreShortButLast (next ∷ files)

-- each file of a command but the program of `run` is a text of a model
abbrev pub AreShortFor : Command → List (List ℕ) → Type 0
AreShortFor (C.Run run) files = AreShortButLast files
AreShortFor (C.Check models) files = All IsShort files
AreShortFor (C.Certs models) files = All IsShort files
AreShortFor (C.Synth synth) files = Unit {0}
