-- Openings of an accepted text: they pass the test of openings.
use Rattle.std.specs.Prelude.{◌≡◌, ℕ, true, List, [], Option, None}
use Rattle.sail_base.specs.declared.place.Place.{Place}
use Rattle.sail_syntax.specs.declared.definitions.Def.{Def}
use Rattle.sail_tables.specs.Refused.{IsAccepted}
use Rattle.shapes.specs.Failures.{refusal}
use Rattle.shapes.specs.Tabled.{tabled_of}
use Rattle.known_texts.specs.Written.{IsWritten}
use Rattle.text_progress.specs.Laws.{core_of}
use Rattle.safe_models.specs.OpeningTests.{openings_fit}

abbrev pub AcceptedOpeningsFit : Type 0
AcceptedOpeningsFit =
    (text : List Def) (end : Place) (cycle : List ℕ → Option ℕ) → IsAccepted text end → refusal (tabled_of text) text ≡ None → IsWritten text
    → openings_fit (core_of text cycle) [] (core_of text cycle).openings ≡ true
