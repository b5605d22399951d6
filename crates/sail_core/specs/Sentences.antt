-- Sentences of the language's rules, said of the meaning (Sail language manual, "Expressions").
use Rattle.std.specs.Prelude.{◌≡◌, ℕ, List, [], ◌∷◌, Some, false}
use Rattle.sail_base.specs.declared.place.Place.{Place}
use Rattle.sail_types.specs.declared.values.Value.{Value}
use Rattle.sail_types.specs.declared.values.Value.TheVariants as V
use Rattle.model_state.specs.declared.cause.Cause.TheVariants.{WorkLimit}
use Rattle.sail_core.specs.declared.patterns.Arm.{Arm}
use Rattle.sail_core.specs.declared.targets.Way.TheVariants as Y
use Rattle.sail_core.specs.declared.targets.TargetKind.TheVariants as T
use Rattle.sail_core.specs.declared.targets.Target.{Target, roll-Target}
use Rattle.sail_core.specs.declared.tree.Kind.TheVariants as K
use Rattle.sail_core.specs.declared.model.Function.{Function}
use Rattle.sail_core.specs.Run as R
use Rattle.sail_core.specs.Run.{Now, Run, needs, falls, ◌then◌}
use Rattle.sail_core.specs.Values.{item_way, replaced}
use Rattle.sail_core.specs.Numbers.{Awaited}
use Rattle.sail_core.specs.Making.{World, plainly, integer}
use Rattle.sail_core.specs.Patterns.{arm_meaning}
use Rattle.sail_core.specs.Targets.{read_register, write_register}
use Rattle.sail_core.specs.Meaning.{first_of, kind_meaning}
use Rattle.sail_core.specs.Program.{Setting, Calls, Measures, entered}

-- the register of a place, and the item of it at an index
abbrev pub register : Place → ℕ → ℕ → Target
register p k r = roll-Target (record { place = p; number = k; kind = T.Register r; parts = [] })

abbrev pub item_of : Place → ℕ → Target → Target
item_of p k base = roll-Target (record { place = p; number = k; kind = T.Part (record { place = p; number = k; way = Y.Item } ∷ []); parts = base ∷ [] })

-- `R[i] = e`: the index, then the new value, then the register is read and written
abbrev pub AssignmentsRead : Type 0
AssignmentsRead = (w : World Value) (p : Place) (k r : ℕ) (i e : Run Value Value)
    → kind_meaning plainly w p k (K.Assign (item_of p k (register p k r) ∷ [])) (i ∷ e ∷ [])
    ≡ (i then λ x. integer plainly x then λ index. e then λ v. read_register w r then λ old.
    needs (replaced (item_way index ∷ []) old v) then write_register plainly w r)

-- where a pattern doesn't match, its guard and body aren't looked at
abbrev pub GuardsComeLater : Type 0
GuardsComeLater = (w : World Value) (k : ℕ) (arm : Arm) (arms : List Arm) (body : Run Value Value) (bodies : List (Run Value Value)) (none : Run Value Value)
    (xs : List Value) → arm_meaning plainly w arm xs ≡ falls
    → first_of plainly w k (arm ∷ arms) (body ∷ bodies) none xs ≡ first_of plainly w k arms bodies none xs

-- a `while` whose condition is false takes no tick, and its measure isn't looked at
abbrev pub NoTurnNoTick : Type 0
NoTurnNoTick = (w : World Value) (p : Place) (k : ℕ) (measure condition body : Run Value Value) (now after : Now Value)
    → condition now ≡ R.Gives (V.Truth false) after
    → kind_meaning plainly w p k K.While (measure ∷ condition ∷ body ∷ []) now ≡ R.Gives V.Unit after

-- a call without a tick left stops the run, whatever its measure
abbrev pub TicksFirst : Type 0
TicksFirst = (s : Setting Value) (calls : Calls Value) (active : Measures) (p : Place) (i : ℕ) (awaited : Awaited) (vs : List Value) (f : Function)
    (now : Now Value) → now.ticks ≡ 0 → entered s calls active p i awaited vs (Some f) now ≡ R.Stops WorkLimit now
