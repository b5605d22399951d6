-- An accepted text passes the test of models, and its patterns stand.
use Rattle.std.specs.Prelude.{◌≡◌, ℕ, true, List, Option, None}
use Rattle.sail_base.specs.declared.place.Place.{Place}
use Rattle.sail_syntax.specs.declared.definitions.Def.{Def}
use Rattle.sail_tables.specs.Refused.{IsAccepted}
use Rattle.shapes.specs.Failures.{refusal}
use Rattle.shapes.specs.Tabled.{tabled_of}
use Rattle.known_texts.specs.Written.{IsWritten}
use Rattle.text_progress.specs.Laws.{core_of}
use Rattle.pattern_laws.specs.Standing.{stands}
use Rattle.standing_texts.specs.Bodies.{TextPatterns}
use Rattle.safe_models.specs.ModelTests.{model_fits}

abbrev pub PatternsOfTextsPass : Type 0
PatternsOfTextsPass =
    (text : List Def) (end : Place) (cycle : List ℕ → Option ℕ) → IsAccepted text end → refusal (tabled_of text) text ≡ None → IsWritten text
    → TextPatterns text (stands (core_of text cycle).types)

abbrev pub AcceptedTextsFit : Type 0
AcceptedTextsFit =
    (text : List Def) (end : Place) (cycle : List ℕ → Option ℕ) → IsAccepted text end → refusal (tabled_of text) text ≡ None → IsWritten text
    → model_fits (core_of text cycle) ≡ true
