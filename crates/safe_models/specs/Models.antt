-- What the forms of expressions take of a model, in the core of an accepted text.
use Rattle.std.specs.Prelude.{◌≡◌, ℕ, List, Option, None}
use Rattle.sail_base.specs.declared.place.Place.{Place}
use Rattle.sail_syntax.specs.declared.definitions.Def.{Def}
use Rattle.sail_tables.specs.Refused.{IsAccepted}
use Rattle.constraint_gen.specs.Models.{around_of}
use Rattle.shapes.specs.Failures.{refusal}
use Rattle.shapes.specs.Tabled.{tabled_of}
use Rattle.known_texts.specs.Written.{IsWritten}
use Rattle.text_progress.specs.Laws.{core_of}
use Rattle.soundness_steps.specs.Works.{Setting, Work}
use Rattle.sail_soundness.specs.Whole.{ModelStands}

-- whatever instance is at work
abbrev pub ModelsOfTextsStand : Type 0
ModelsOfTextsStand =
    (text : List Def) (end : Place) (cycle : List ℕ → Option ℕ) → IsAccepted text end → refusal (tabled_of text) text ≡ None → IsWritten text
    → (set : Setting) → set.around ≡ around_of (core_of text cycle) → (work : Work) → ModelStands set work
