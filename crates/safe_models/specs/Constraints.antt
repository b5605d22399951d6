-- What the core of a text has of the constraints of its functions (Sail language manual, "Type variables").
use Rattle.std.specs.Prelude.{◌≡◌, ℕ, true, List, slice_get, Option, Some}
use Rattle.sail_syntax.specs.declared.definitions.Def.{Def}
use Rattle.sail_core.specs.declared.model.Function.{Function}
use Rattle.text_progress.specs.Laws.{core_of}
use Rattle.whole_runs.specs.Own.{is_own}

-- each names the function's own variables alone, as what they are
abbrev pub ConstraintsAreOwn : Type 0
ConstraintsAreOwn =
    (text : List Def) (cycle : List ℕ → Option ℕ) (i : ℕ) (f : Function) → slice_get (core_of text cycle).functions i ≡ Some f
    → is_own f.variables f.constraint ≡ true
