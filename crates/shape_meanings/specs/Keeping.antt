-- What a run keeps: each value in reach has its shape, and the core does what the source does.
use Rattle.std.specs.Prelude.{◌≡◌, ℕ, true, List, [], ◌∷◌, map, slice_get, Option, Some, None}
use Rattle.sail_types.specs.Shapes.{fits, each_fits, put}
use Rattle.sail_types.specs.declared.shapes.Shape.{Shape}
use Rattle.sail_types.specs.declared.table.Types.{Types}
use Rattle.sail_types.specs.declared.values.Value.{Value}
use Rattle.model_state.specs.RunState.{RunState, register_value}
use Rattle.sail_core.specs.Run as R
use Rattle.sail_core.specs.Run.{Now, Ended}
use Rattle.shape_rules.specs.declared.locals.Local.{Local}
use Rattle.shape_rules.specs.Scopes.{Setting, Locals, local_of, thrown_shape}
use Rattle.shape_meanings.specs.Whole.{Choice}

-- ---- values

-- a value of a shape, whose variables stand for these shapes
abbrev pub Fits : Types → Choice → Shape → Value → Type 0
Fits types c s v = fits types v (put c s) ≡ true

abbrev pub FitAll : Types → Choice → List Shape → List Value → Type 0
FitAll types c ss vs = each_fits (map (fits types) vs) (map (put c) ss) ≡ true

-- ---- names in scope

-- names with shapes, and what the names in scope are bound to: the same names in order, each with a value of its shape
abbrev pub Suits : Types → Choice → List Local → List (R.Local Value) → Type 0
Suits types c [] [] = Unit {0}
Suits types c (l ∷ ls) (b ∷ bs) = (b.name ≡ l.name) × Fits types c l.shape b.held × Suits types c ls bs
Suits types c ls bs = ⊥

-- the names of a run, in the order in which it holds them, are those that are looked up, whatever the order of names of one pattern
abbrev pub SeenAs : List Local → Locals → Type 0
SeenAs slots locals = (name : List ℕ) → local_of name slots ≡ local_of name locals

-- ---- the state

-- the registers of each hart have values of their shapes
abbrev pub RegistersFit : Types → List Shape → RunState → Type 0
RegistersFit types registers state =
    (hart r : ℕ) (v : Value) (s : Shape) → register_value state hart r ≡ Some v → slice_get registers r ≡ Some s → fits types v s ≡ true

-- ---- a moment of a run

-- what is in reach of a run: the named types, the shapes of the registers, of what is thrown, and of what is returned, where a function is
-- at work; what its variables stand for; and the names in scope
pub record Reach : Type 0 where
  pub types : Types
  pub registers : List Shape
  pub thrown : Shape
  pub answer : Option Shape
  pub choice : Choice
  pub slots : List Local

abbrev pub reach_of : Setting → List Shape → Choice → List Local → Reach
reach_of setting registers c slots = record {
  types = setting.types;
  registers = registers;
  thrown = thrown_shape setting;
  answer = setting.answer;
  choice = c;
  slots = slots;
}

-- each value in reach has its shape
pub record Good (reach : Reach) (now : Now Value) : Type 0 where
  pub locals : Suits reach.types reach.choice reach.slots now.locals
  pub state : RegistersFit reach.types reach.registers now.state

-- a value that is returned; nothing is, where no function is at work
abbrev pub Answers : Reach → Option Shape → Value → Type 0
Answers reach None v = ⊥
Answers reach (Some s) v = Fits reach.types reach.choice s v

-- however a piece ends, each value in reach has its shape then, what it gives is so, and what it throws or returns has its shape
abbrev pub Keeps : {A : Type 0} → Reach → (A → Type 0) → Ended Value A → Type 0
Keeps reach P (R.Gives x now) = P x × Good reach now
Keeps reach P (R.No now) = Good reach now
Keeps reach P (R.Returns v now) = Answers reach reach.answer v × Good reach now
Keeps reach P (R.Throws v now) = (fits reach.types v reach.thrown ≡ true) × Good reach now
Keeps reach P (R.Stops cause now) = Good reach now
Keeps reach P R.Stuck = Unit {0}

-- the core does what the source does, and keeps shapes
abbrev pub Agree : {A : Type 0} → Reach → (A → Type 0) → Ended Value A → Ended Value A → Type 0
Agree reach P core source = (core ≡ source) × Keeps reach P source

-- ---- calls: no name of the caller is in reach

-- the same, where nothing is returned and the names in scope are those of before
pub record Apart (types : Types) (registers : List Shape) (before after : Now Value) : Type 0 where
  pub locals : after.locals ≡ before.locals
  pub state : RegistersFit types registers after.state

abbrev pub KeepsApart : {A : Type 0} → Types → List Shape → Shape → (A → Type 0) → Now Value → Ended Value A → Type 0
KeepsApart types registers thrown P before (R.Gives x now) = P x × Apart types registers before now
KeepsApart types registers thrown P before (R.No now) = Apart types registers before now
KeepsApart types registers thrown P before (R.Returns v now) = ⊥
KeepsApart types registers thrown P before (R.Throws v now) = (fits types v thrown ≡ true) × Apart types registers before now
KeepsApart types registers thrown P before (R.Stops cause now) = Apart types registers before now
KeepsApart types registers thrown P before R.Stuck = Unit {0}

abbrev pub AgreeApart : {A : Type 0} → Types → List Shape → Shape → (A → Type 0) → Now Value → Ended Value A → Ended Value A → Type 0
AgreeApart types registers thrown P before core source = (core ≡ source) × KeepsApart types registers thrown P before source
