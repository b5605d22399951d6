-- What follows of a text that is parsed: it is as the grammar has it, and so is what is gathered of it.
use Rattle.std.specs.Prelude.{◌≡◌, ℕ, List, Option, None}
use Rattle.sail_base.specs.declared.place.Place.{Place}
use Rattle.sail_syntax.specs.declared.definitions.Def.{Def}
use Rattle.sail_grammar.specs.Symbol.{Sign}
use Rattle.sail_grammar.specs.Model.{IsModel}
use Rattle.scattered.specs.Gathered.{gathered}
use Rattle.sail_tables.specs.Refused.{IsAccepted}
use Rattle.shape_meanings.specs.Models.{CoreMeansText}
use Rattle.shapes.specs.Failures.{refusal}
use Rattle.shapes.specs.Resolved.{resolved}
use Rattle.shapes.specs.Tabled.{tabled_of}
use Rattle.known_texts.specs.Texts.{text_of}
use Rattle.known_texts.specs.Written.{IsWritten}

-- the definitions that tokens are, and those that are gathered of them, are as the grammar has them
abbrev pub ParsedTextsAreWritten : Type 0
ParsedTextsAreWritten = (tokens : List Sign) (definitions : List Def) → IsModel tokens definitions → IsWritten definitions × IsWritten (gathered definitions)

-- the core of a text that the tables accept, and that nothing is refused for in shapes, does what the text does
abbrev pub CoreMeansIfAccepted : List Def → Type 0
CoreMeansIfAccepted text =
    (end : Place) (cycle : List ℕ → Option ℕ) → IsAccepted text end → refusal (tabled_of text) text ≡ None
    → CoreMeansText (text_of (tabled_of text) cycle text) (resolved (tabled_of text) cycle text)

-- so it does, with no premise on its trees, where the text is what is gathered of the definitions that tokens are
abbrev pub ParsedTextsMeanText : Type 0
ParsedTextsMeanText = (tokens : List Sign) (definitions : List Def) → IsModel tokens definitions → CoreMeansIfAccepted (gathered definitions)
