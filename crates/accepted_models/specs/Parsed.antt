-- What follows of a text that is parsed: its expressions are as the grammar has them, so what is accepted of it goes on.
use Rattle.std.specs.Prelude.{◌≡◌, ℕ, List, Option, None}
use Rattle.sail_base.specs.declared.place.Place.{Place}
use Rattle.sail_syntax.specs.declared.definitions.Def.{Def}
use Rattle.sail_grammar.specs.Symbol.{Sign}
use Rattle.sail_grammar.specs.Model.{IsModel}
use Rattle.scattered.specs.Gathered.{gathered}
use Rattle.sail_tables.specs.Refused.{IsAccepted}
use Rattle.shapes.specs.Failures.{refusal}
use Rattle.shapes.specs.Tabled.{tabled_of}
use Rattle.text_progress.specs.Laws.{CoreGoesOn}
use Rattle.text_progress.specs.Manners.{HasManners}

-- measures, top-level lets and initial values of what is gathered of the definitions that tokens are, are plain, and each `with` has a field
abbrev pub ParsedTextsHaveManners : Type 0
ParsedTextsHaveManners = (tokens : List Sign) (definitions : List Def) → IsModel tokens definitions → HasManners (gathered definitions)

-- nothing of the core of a text that the tables accept, and that nothing is refused for in shapes, is stuck but where a condition on sizes or numbers fails
abbrev pub CoreGoesOnIfAccepted : List Def → Type 0
CoreGoesOnIfAccepted text =
    (end : Place) (cycle : List ℕ → Option ℕ) → IsAccepted text end → refusal (tabled_of text) text ≡ None → CoreGoesOn text cycle

-- so it is, with no premise on its trees, where the text is what is gathered of the definitions that tokens are
abbrev pub ParsedTextsGoOn : Type 0
ParsedTextsGoOn = (tokens : List Sign) (definitions : List Def) → IsModel tokens definitions → CoreGoesOnIfAccepted (gathered definitions)
