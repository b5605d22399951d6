-- The core of an accepted text stands, with its openings, as the law that nothing gets stuck takes it.
use Rattle.std.specs.Prelude.{◌≡◌, ℕ, List, Option, None}
use Rattle.sail_base.specs.declared.place.Place.{Place}
use Rattle.sail_types.specs.Numbers.{Positive}
use Rattle.sail_syntax.specs.declared.definitions.Def.{Def}
use Rattle.sail_tables.specs.Refused.{IsAccepted}
use Rattle.shapes.specs.Failures.{refusal}
use Rattle.shapes.specs.Tabled.{tabled_of}
use Rattle.known_texts.specs.Written.{IsWritten}
use Rattle.text_progress.specs.Laws.{core_of}
use Rattle.checked_meaning.specs.Checked.{Checks}
use Rattle.soundness_steps.specs.Works.{Coverage}
use Rattle.whole_runs.specs.Never.{Stands, setting_in}

abbrev pub FittingTextsStand : Type 0
FittingTextsStand =
    (text : List Def) (end : Place) (cycle : List ℕ → Option ℕ) → IsAccepted text end → refusal (tabled_of text) text ≡ None → IsWritten text
    → (past : Positive) (hart : ℕ) (covered : Coverage) (k : Checks) (rank : ℕ → ℕ)
    → Stands (setting_in (core_of text cycle) past hart covered) (core_of text cycle) k rank
