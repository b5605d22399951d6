-- Mappings of an accepted text have ranks that fall: patterns in the core of a mapping convert by directions of lower ranks alone
-- (Sail language manual, "Mappings").
use Rattle.std.specs.Prelude.{◌≡◌, ℕ, true, List, Option, None}
use Rattle.sail_base.specs.declared.place.Place.{Place}
use Rattle.sail_syntax.specs.declared.definitions.Def.{Def}
use Rattle.sail_tables.specs.Refused.{IsAccepted}
use Rattle.shapes.specs.Failures.{refusal}
use Rattle.shapes.specs.Tabled.{tabled_of}
use Rattle.known_texts.specs.Written.{IsWritten}
use Rattle.text_progress.specs.Laws.{core_of}
use Rattle.covering_laws.specs.Covered.{ways_fall}

abbrev pub WaysOfTextsFall : Type 0
WaysOfTextsFall =
    (text : List Def) (end : Place) (cycle : List ℕ → Option ℕ) → IsAccepted text end → refusal (tabled_of text) text ≡ None → IsWritten text
    → (rank : ℕ → ℕ) × (ways_fall (core_of text cycle) rank ≡ true)
