-- Calls of functions of a model end well.
use Rattle.std.specs.Prelude.{◌≡◌, true, false, List, [], Some, Option}
use Rattle.sail_base.specs.declared.place.Place.{Place}
use Rattle.sail_types.specs.declared.values.Value.{Value}
use Rattle.sail_types.specs.Places.{Given}
use Rattle.sail_core.specs.declared.model.Function.{Function}
use Rattle.sail_core.specs.declared.tree.Core.{Core}
use Rattle.sail_core.specs.Making.{World}
use Rattle.sail_core.specs.Numbers.{Givens, all_agree}
use Rattle.sail_core.specs.Program as P
use Rattle.sail_core.specs.Program.{Calls, Measures, entered, world_of}
use Rattle.sail_core.specs.Run.{Now}
use Rattle.expression_steps.specs.Statements.{natural_type}
use Rattle.checked_meaning.specs.Checked.{Cases, Checks, checking}
use Rattle.checked_meaning.specs.Items.{Item}
use Rattle.value_laws.specs.Belonging.{Integers, standing, closed}
use Rattle.soundness_steps.specs.Works.{Work, Setting, Scene}
use Rattle.soundness_steps.specs.States.{StateBelongs}
use Rattle.soundness_steps.specs.Calls.{CallEnds, Enters, IsResult, SoundCalls, awaited_at}
use Rattle.soundness_forms.specs.Worlds.{LetsAre}
use Rattle.soundness_calls.specs.Premises.{CoreHolds, Covered, own_of, own_type}
use Rattle.call_fits.specs.Calls.{givens_at}

-- a model at work, each definition read with the checks
abbrev pub running : Setting → Checks → List Value → P.Setting Item
running set k lets = record {
  functions = set.around.functions;
  directions = set.around.directions;
  sizing = checking (record k { types = set.around.types });
  hart = set.hart;
  lets = lets;
}

-- the body of a function; whatever it returns is of its result's type
abbrev pub scene_of : Setting → Work → Function → Integers → Cases → Scene
scene_of set x f h cases = record {
  set = set;
  work = x;
  numbers = own_of f;
  result = Some (own_type f f.result);
  cases = cases;
  reached = set.covered.direction;
  answer = Some (closed set.around.types (standing set.past h) x.types (own_type f f.result));
  may_fall = true;
  names = [];
}

-- its clauses, and those of its measure
pub record PartsHold (set : Setting) (k : Checks) (x : Work) (f : Function) : Type 0 where
  pub body : (h : Integers) (nu : Givens) (w : World Item)
      → CoreHolds (scene_of set x f h (k.function x.function x.instance.place nu)) w f (own_type f f.result) f.is_declared f.body
  pub measure : (h : Integers) (nu : Givens) (w : World Item) (core : Core) → f.measure ≡ Some core
      → CoreHolds (scene_of set x f h (k.function x.function x.instance.place nu)) w f natural_type true core

-- where calls further in end well, so do calls of a function
abbrev pub FunctionsAreSound : Type 0
FunctionsAreSound = (set : Setting) (k : Checks) (lets : List Value) (x : Work) (f : Function) → LetsAre set x set.around.lets lets
    → (calls : Calls Item) → ((active : Measures) (nu : Givens) (xs : List Item)
    → SoundCalls set set.covered.direction (world_of (running set k lets) calls active nu xs))
    → Covered set k x f → PartsHold set k x f → (vs : List Value) (h : Integers) → Enters set x f vs h
    → (awaited : List (Option Given)) → all_agree awaited (givens_at h 0 f.variables) ≡ true → (active : Measures) (place : Place) (before : Now Item)
    → StateBelongs set before.state → CallEnds set false before (IsResult set x f h)
    (entered (running set k lets) calls active place x.function (Some (awaited_at x awaited)) vs (Some f) before)
