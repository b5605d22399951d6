-- What the core of an accepted text has of its types (Sail language manual, "Type variables", "Registers", "Mappings").
use Rattle.std.specs.Prelude.{◌≡◌, ℕ, true, List, slice_get, Option, Some, None}
use Rattle.sail_base.specs.declared.place.Place.{Place}
use Rattle.sail_syntax.specs.declared.definitions.Def.{Def}
use Rattle.model_state.specs.declared.state.Register.{Register}
use Rattle.sail_core.specs.declared.model.Direction.{Direction}
use Rattle.sail_tables.specs.Refused.{IsAccepted}
use Rattle.call_arguments.specs.Callees.{is_closed}
use Rattle.shapes.specs.Failures.{refusal}
use Rattle.shapes.specs.Tabled.{tabled_of}
use Rattle.known_texts.specs.Written.{IsWritten}
use Rattle.text_progress.specs.Laws.{core_of}
use Rattle.soundness_values.specs.Named.{TypesNarrow}

-- fields and payloads name no Type variables but those of their own definition, and no tuple among payloads has one part
abbrev pub TablesAreNarrow : Type 0
TablesAreNarrow = (text : List Def) (cycle : List ℕ → Option ℕ) → IsWritten text → TypesNarrow (core_of text cycle).types

-- types of registers name no variable
abbrev pub RegistersAreClosed : Type 0
RegistersAreClosed =
    (text : List Def) (cycle : List ℕ → Option ℕ) (i : ℕ) (r : Register) → slice_get (core_of text cycle).registers i ≡ Some r → is_closed r.typ ≡ true

-- nor do those of mappings
abbrev pub MappingsAreClosed : Type 0
MappingsAreClosed =
    (text : List Def) (end : Place) (cycle : List ℕ → Option ℕ) → IsAccepted text end → refusal (tabled_of text) text ≡ None → IsWritten text
    → (d : ℕ) (m : Direction) → slice_get (core_of text cycle).directions d ≡ Some m → (is_closed m.parameter ≡ true) × (is_closed m.result ≡ true)
