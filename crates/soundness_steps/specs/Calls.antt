-- What is known of calls inside a piece: a call on values that belong to the parameters ends well, and what it gives belongs to the result.
use Rattle.std.specs.Prelude.{◌≡◌, ℕ, Bool, true, false, List, length, slice_get, Option, Some}
use Rattle.sail_base.specs.declared.place.Place.{Place}
use Rattle.sail_types.specs.Belongs.{reading, no_readings, assigned, belongs}
use Rattle.sail_types.specs.Numbers.{Assignment, true_in}
use Rattle.sail_types.specs.Places.{Given}
use Rattle.sail_types.specs.declared.types.Typ.{Typ}
use Rattle.sail_types.specs.declared.values.Value.{Value}
use Rattle.model_state.specs.declared.cause.Cause.{Cause}
use Rattle.sail_core.specs.declared.model.Direction.{Direction}
use Rattle.sail_core.specs.declared.model.Function.{Function}
use Rattle.sail_core.specs.Making.{World}
use Rattle.sail_core.specs.Numbers.{Instance, all_agree, givens_of}
use Rattle.sail_core.specs.Run as R
use Rattle.sail_core.specs.Run.{Now, Ended}
use Rattle.checked_meaning.specs.Items.{Item, fixed_typ}
use Rattle.checked_meaning.specs.Fits.{AllFit}
use Rattle.value_laws.specs.Belonging.{Integers, standing, over}
use Rattle.call_fits.specs.Calls.{AllBelong, givens_at, own_variables}
use Rattle.soundness_steps.specs.Works.{Work, Setting, IsFitted}
use Rattle.soundness_steps.specs.States.{nothing_stands, StateBelongs, IsThrown}

-- ---- how a call ends: the caller's names, and the numbers that it noted, are as before

pub record After (set : Setting) (before now : Now Item) : Type 0 where
  pub state : StateBelongs set now.state
  pub locals : now.locals ≡ before.locals
  pub opened : now.opened ≡ before.opened

pub data CallEnds (set : Setting) (may_fall : Bool) (before : Now Item) {A : Type 0} (Holds : A → Type 0) : Ended Item A → Type 0 where
  call_gives : (x : A) (now : Now Item) → Holds x → After set before now → CallEnds set may_fall before Holds (R.Gives x now)
  call_falls : (now : Now Item) → may_fall ≡ true → After set before now → CallEnds set may_fall before Holds (R.No now)
  call_throws : (v : Value) (now : Now Item) → IsThrown set set.around.exception v → After set before now → CallEnds set may_fall before Holds (R.Throws v now)
  call_stops : (cause : Cause) (now : Now Item) → CallEnds set may_fall before Holds (R.Stops cause now)

-- ---- functions: arguments that belong to the parameters, for numbers that make the constraint true and are those of a covered instance

-- an instance that is awaited in its place, of whose numbers none is another
abbrev pub awaited_at : Work → List (Option Given) → Instance
awaited_at x awaited = record { place = x.instance.place; numbers = awaited }

-- what they stand for
abbrev pub inside : Setting → Function → Integers → Assignment
inside set f h = assigned (standing set.past h) (own_variables 0 f.variables)

pub record Enters (set : Setting) (x : Work) (f : Function) (vs : List Value) (h : Integers) : Type 0 where
  pub is_covered : set.covered.function x ≡ true
  -- where it is taken so, values of its Type variables have the sizes of its instance
  pub own_fits : IsFitted set → AllFit set.around.types x.types x.own
  pub is_it : slice_get set.around.functions x.function ≡ Some f
  pub belong : AllBelong set.around.types (inside set f h) x.types f.parameters vs
  pub constraint : true_in (inside set f h) f.constraint ≡ true
  pub are_given : givens_of (length f.variables) f.parameters vs ≡ Some (givens_at h 0 f.variables)
  pub awaited : all_agree x.instance.numbers (givens_at h 0 f.variables) ≡ true

abbrev pub IsResult : Setting → Work → Function → Integers → Value → Type 0
IsResult set x f h v = belongs set.around.types v (over (inside set f h) f.result x.types) ≡ true

-- ---- directions of mappings: their types name no variable

abbrev pub IsOf : Setting → Typ → Value → Type 0
IsOf set t v = belongs set.around.types v (reading t (nothing_stands set.past) no_readings) ≡ true

pub record IsGiven (set : Setting) (m : Direction) (y : Item) : Type 0 where
  pub belongs : IsOf set m.result y.val
  pub typ : y.typ ≡ fixed_typ set.around.types m.result

-- ---- all calls of a piece, which goes through these directions in patterns

pub record SoundCalls (set : Setting) (reached : ℕ → Bool) (w : World Item) : Type 0 where
  pub call : (place : Place) (x : Work) (f : Function) (vs : List Value) (h : Integers) → Enters set x f vs h
      → (awaited : List (Option Given)) → all_agree awaited (givens_at h 0 f.variables) ≡ true → (before : Now Item) → StateBelongs set before.state
      → CallEnds set false before (IsResult set x f h) (w.call place x.function (Some (awaited_at x awaited)) vs before)
  pub enter : (d : ℕ) (m : Direction) (v : Value) → set.covered.direction d ≡ true → slice_get set.around.directions d ≡ Some m → IsOf set m.parameter v
      → (before : Now Item) → StateBelongs set before.state → CallEnds set true before (IsOf set m.result) (w.enter d v before)
  pub way : (d : ℕ) (m : Direction) (x : Item) → reached d ≡ true → slice_get set.around.directions d ≡ Some m → IsOf set m.parameter x.val
      → (before : Now Item) → StateBelongs set before.state → CallEnds set true before (IsGiven set m) (w.way d x before)
