-- Forms of expressions that end well beside their walks.
use Rattle.std.specs.Prelude.{◌≡◌, ℕ, Bool, List, length, slice_get, Some, None}
use Rattle.sail_base.specs.declared.place.Place.{Place}
use Rattle.sail_core.specs.Making.{World}
use Rattle.sail_core.specs.Run.{◌then◌}
use Rattle.sail_core.specs.declared.model.Function.{Function}
use Rattle.sail_core.specs.declared.patterns.Literal.{Literal}
use Rattle.sail_core.specs.declared.tree.Kind.TheVariants as K
use Rattle.sail_core.specs.declared.written.Written.{Written}
use Rattle.value_indices.specs.declared.indices.Indices.{Indices}
use Rattle.value_indices.specs.declared.notes.Fact.{Fact}
use Rattle.call_arguments.specs.Callees.{numbers_from, types_from}
use Rattle.call_notes.specs.Calls.{function_called}
use Rattle.checked_meaning.specs.Checked.{checked}
use Rattle.checked_meaning.specs.Items.{Item, vals}
use Rattle.value_laws.specs.Known.{Point}
use Rattle.soundness_steps.specs.Calls.{SoundCalls}
use Rattle.soundness_steps.specs.Steps.{Beside}
use Rattle.soundness_steps.specs.Values.{AllTyped, Is}
use Rattle.soundness_steps.specs.Works.{Scene, here}
use Rattle.soundness_forms.specs.Calls.{ArgumentsAre, CallsFit}
use Rattle.soundness_forms.specs.EachKind.{KindFine}
use Rattle.soundness_forms.specs.Forms.{FitsSuffice}

-- literals and names
abbrev pub LeavesAreFine : Type 0
LeavesAreFine = FitsSuffice → (q : Scene) (w : World Item)
    → ((l : Literal) → KindFine q w (K.Constant l)) × ((name : List ℕ) → KindFine q w (K.Local name)) × ((name : List ℕ) → KindFine q w (K.Variable name))

-- values that come to a type, where one is written and where one is wanted
abbrev pub CastsAreFine : Type 0
CastsAreFine = FitsSuffice → (q : Scene) (w : World Item) → KindFine q w (K.Cast None) × ((written : Written) → KindFine q w (K.Cast (Some written)))

-- `return` and `exit`
abbrev pub LeavingIsFine : Type 0
LeavingIsFine = FitsSuffice → (q : Scene) (w : World Item) → KindFine q w K.Return × KindFine q w K.Exit

-- a call of a function on arguments that are there: it leads to an instance, and what it gives has the indices of the result
abbrev pub CallsAreFine : Type 0
CallsAreFine = (q : Scene) (w : World Item) (place : Place) (k i : ℕ) (fn : Function) → CallsFit fn → slice_get q.set.around.functions i ≡ Some fn
    → SoundCalls q.set q.reached w → (n : ℕ) (f : Point n) (facts : List Fact) (bs : List Bool) (is : List Indices) (xs : List Item)
    → ArgumentsAre q.set q.work f bs fn.parameters is (vals xs) → AllTyped q.set q.work f is xs
    → Beside q n f facts (function_called (here q) place k i fn (numbers_from 0 fn.variables fn.parameters is)
    (types_from n 0 (length fn.type_variables) fn.parameters is) bs is)
    (((checked q.set.around.types q.cases).calls k xs then λ awaited. w.call place i awaited (vals xs)) then λ v.
    (checked q.set.around.types q.cases).make k xs v)
    (λ m g j y. Is q.set q.work g j y)
