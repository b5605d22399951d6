-- What follows of texts that the program accepts.
use Rattle.std.specs.Prelude.{ℕ, List, Option}
use Rattle.sail_syntax.specs.declared.definitions.Def.{Def}
use Rattle.scattered.specs.Gathered.{gathered}
use Rattle.shape_meanings.specs.Models.{CoreMeansText}
use Rattle.shapes.specs.Resolved.{resolved}
use Rattle.shapes.specs.Tabled.{tabled_of}
use Rattle.known_texts.specs.Texts.{text_of}
use Rattle.sail_top.specs.Models.{AreAccepted}
use Rattle.sail_top.specs.Accepted.{Accepted}

-- the core of a text does what the text does, whatever the numbers of its cycles of calls
abbrev pub CoreMeans : List Def → Type 0
CoreMeans text = (cycle : List ℕ → Option ℕ) → CoreMeansText (text_of (tabled_of text) cycle text) (resolved (tabled_of text) cycle text)

-- where texts are accepted, the core of their definitions, gathered, does what these do
abbrev pub AcceptedModelsMeanText : Type 0
AcceptedModelsMeanText = (texts : List (List ℕ)) (made : Accepted) (accepted : AreAccepted texts made) → CoreMeans (gathered accepted.definitions)
