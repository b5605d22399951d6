-- All calls of a model: functions and directions of mappings, whatever number of calls may be inside one another.
use Rattle.std.specs.Prelude.{◌≡◌, ℕ, true, false, List, slice_get, Some, Option}
use Rattle.sail_base.specs.declared.place.Place.{Place}
use Rattle.sail_types.specs.declared.values.Value.{Value}
use Rattle.sail_types.specs.Places.{Given}
use Rattle.sail_core.specs.declared.model.Direction.{Direction}
use Rattle.sail_core.specs.declared.model.Function.{Function}
use Rattle.sail_core.specs.Numbers.{Givens, all_agree}
use Rattle.sail_core.specs.Program.{Calls, Measures, calls, world_of}
use Rattle.sail_core.specs.Run.{Now}
use Rattle.checked_meaning.specs.Checked.{Checks}
use Rattle.checked_meaning.specs.Items.{Item}
use Rattle.checked_meaning.specs.Fits.{AllFit}
use Rattle.value_laws.specs.Belonging.{Integers}
use Rattle.soundness_steps.specs.Works.{Setting, Work, IsFitted}
use Rattle.soundness_steps.specs.States.{StateBelongs}
use Rattle.soundness_steps.specs.Calls.{CallEnds, Enters, IsOf, IsResult, SoundCalls, awaited_at}
use Rattle.soundness_forms.specs.Worlds.{LetsAre}
use Rattle.soundness_calls.specs.Premises.{Covered}
use Rattle.soundness_calls.specs.Laws.{PartsHold, running}
use Rattle.soundness_calls.specs.Directions.{CoveredDirection}
use Rattle.call_fits.specs.Calls.{givens_at}

-- calls of functions end well, and so do covered directions that calls enter
pub record SoundBelow (set : Setting) (below : Calls Item) : Type 0 where
  pub call : (active : Measures) (place : Place) (x : Work) (f : Function) (vs : List Value) (h : Integers) → Enters set x f vs h
      → (awaited : List (Option Given)) → all_agree awaited (givens_at h 0 f.variables) ≡ true → (before : Now Item) → StateBelongs set before.state
      → CallEnds set false before (IsResult set x f h) (below.call active place x.function (Some (awaited_at x awaited)) vs before)
  pub enter : (active : Measures) (d : ℕ) (m : Direction) (v : Value) → set.covered.direction d ≡ true → slice_get set.around.directions d ≡ Some m
      → IsOf set m.parameter v → (before : Now Item) → StateBelongs set before.state
      → CallEnds set true before (IsOf set m.result) (below.enter active d v before)

-- what is asked of the functions at work and of the directions that are covered, and of the values of top-level lets
pub record CoveredModel (set : Setting) (k : Checks) (rank : ℕ → ℕ) (lets : List Value) : Type 0 where
  pub lets_are : (x : Work) → LetsAre set x set.around.lets lets
  pub functions : (x : Work) (f : Function) → set.covered.function x ≡ true → (IsFitted set → AllFit set.around.types x.types x.own)
      → slice_get set.around.functions x.function ≡ Some f → Covered set k x f × PartsHold set k x f
  pub directions : (d : ℕ) (m : Direction) → set.covered.direction d ≡ true → slice_get set.around.directions d ≡ Some m → CoveredDirection set rank k d m

-- so calls end well however deep
abbrev pub CallsAreSound : Type 0
CallsAreSound = (set : Setting) (k : Checks) (rank : ℕ → ℕ) (lets : List Value) → CoveredModel set k rank lets
    → (depth : ℕ) → SoundBelow set (calls (running set k lets) depth)
    × ((active : Measures) (nu : Givens) (xs : List Item)
    → SoundCalls set set.covered.direction (world_of (running set k lets) (calls (running set k lets) depth) active nu xs))
