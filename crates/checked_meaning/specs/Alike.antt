-- When two runs of one piece, one that is checked and a plain one, are alike: the checked one is stuck, or both end in the same way and at
-- the same moment but for the types of values and the numbers that are noted.
use Rattle.std.specs.Prelude.{ℕ, List, [], map, None}
use Rattle.sail_base.specs.declared.place.Place.{Place}
use Rattle.sail_types.specs.declared.values.Value.{Value}
use Rattle.model_state.specs.declared.cause.Cause.{Cause}
use Rattle.sail_core.specs.Run as R
use Rattle.sail_core.specs.Run.{Local, Now, Ended, Run, local}
use Rattle.sail_core.specs.Numbers.{Givens, Awaited}
use Rattle.sail_core.specs.Making.{World}
use Rattle.checked_meaning.specs.Items.{Item, vals}
use Rattle.checked_meaning.specs.Checked.{Noted}

-- ---- what is left without types

abbrev pub value_in : Item → Value
value_in x = x.val

abbrev pub plain_local : Local Item → Local Value
plain_local l = local l.name l.held.val

abbrev pub plain_locals : List (Local Item) → List (Local Value)
plain_locals ls = map plain_local ls

abbrev pub plain_now : Noted → Now Item → Now Value
plain_now noted now = record {
  locals = plain_locals now.locals;
  ticks = now.ticks;
  state = now.state;
  accesses = now.accesses;
  opened = noted;
}

-- ---- pieces

-- the same, where this is left of what is checked
pub data Is {A B : Type 0} (f : A → B) (x : A) : B → Type 0 where
  is : Is f x (f x)

pub data EndsAlike {A B : Type 0} (P : A → B → Type 0) : Ended Item A → Ended Value B → Type 0 where
  is_stuck : {e : Ended Value B} → EndsAlike P R.Stuck e
  both_give : (x : A) (y : B) → P x y → (noted : Noted) (now : Now Item) → EndsAlike P (R.Gives x now) (R.Gives y (plain_now noted now))
  both_say_no : (noted : Noted) (now : Now Item) → EndsAlike P (R.No now) (R.No (plain_now noted now))
  both_return : (v : Value) (noted : Noted) (now : Now Item) → EndsAlike P (R.Returns v now) (R.Returns v (plain_now noted now))
  both_throw : (v : Value) (noted : Noted) (now : Now Item) → EndsAlike P (R.Throws v now) (R.Throws v (plain_now noted now))
  both_stop : (cause : Cause) (noted : Noted) (now : Now Item) → EndsAlike P (R.Stops cause now) (R.Stops cause (plain_now noted now))

pub record Alike {A B : Type 0} (P : A → B → Type 0) (c : Run Item A) (d : Run Value B) : Type 0 where
  pub at : (noted : Noted) (now : Now Item) → EndsAlike P (c now) (d (plain_now noted now))

-- ---- worlds

abbrev pub same : {A : Type 0} → A → A
same x = x

-- the values of top-level lets: none where the checked openings are stuck
pub data LetsAlike : List Value → List Value → Type 0 where
  no_lets : (vs : List Value) → LetsAlike [] vs
  same_lets : (vs : List Value) → LetsAlike vs vs

-- what two worlds have, and in what they may differ
pub record Around : Type 0 where
  pub hart : ℕ
  pub numbers : Givens
  pub arguments : List Item
  pub lets : List Value
  pub plain_lets : List Value
  pub call : Place → ℕ → Awaited → List Value → Run Item Value
  pub plain_call : Place → ℕ → Awaited → List Value → Run Value Value
  pub enter : ℕ → Value → Run Item Value
  pub plain_enter : ℕ → Value → Run Value Value
  pub way : ℕ → Item → Run Item Item
  pub plain_way : ℕ → Value → Run Value Value

abbrev pub checked_world : Around → World Item
checked_world a = record {
  hart = a.hart;
  numbers = a.numbers;
  arguments = a.arguments;
  lets = a.lets;
  call = a.call;
  enter = a.enter;
  way = a.way;
}

abbrev pub plain_world : Around → World Value
plain_world a = record {
  hart = a.hart;
  numbers = a.numbers;
  arguments = vals a.arguments;
  lets = a.plain_lets;
  call = a.plain_call;
  enter = a.plain_enter;
  way = a.plain_way;
}

-- whatever numbers a call awaits, the plain one awaits none
pub record WorldsAlike (a : Around) : Type 0 where
  pub lets : LetsAlike a.lets a.plain_lets
  pub call : (p : Place) (i : ℕ) (awaited : Awaited) (vs : List Value) → Alike (Is same) (a.call p i awaited vs) (a.plain_call p i None vs)
  pub enter : (d : ℕ) (v : Value) → Alike (Is same) (a.enter d v) (a.plain_enter d v)
  pub way : (d : ℕ) (x : Item) → Alike (Is value_in) (a.way d x) (a.plain_way d x.val)
