-- What the core of an accepted text has of the variables of its functions (Sail language manual, "Type variables").
use Rattle.std.specs.Prelude.{◌≡◌, ℕ, List, slice_get, Option, Some, None}
use Rattle.sail_base.specs.declared.place.Place.{Place}
use Rattle.sail_syntax.specs.declared.definitions.Def.{Def}
use Rattle.sail_core.specs.declared.model.Function.{Function}
use Rattle.sail_tables.specs.Refused.{IsAccepted}
use Rattle.shapes.specs.Failures.{refusal}
use Rattle.shapes.specs.Tabled.{tabled_of}
use Rattle.call_fits.specs.Calls.{EachHasPlace}
use Rattle.text_progress.specs.Laws.{core_of}

-- each Int or Bool variable has a place among the parameters, the first one that of its kind, and no other variable has one
abbrev pub VariablesHavePlaces : Type 0
VariablesHavePlaces =
    (text : List Def) (end : Place) (cycle : List ℕ → Option ℕ) → IsAccepted text end → refusal (tabled_of text) text ≡ None
    → (i : ℕ) (f : Function) → slice_get (core_of text cycle).functions i ≡ Some f → EachHasPlace 0 f.variables f.parameters
