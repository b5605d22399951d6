-- A piece of a run that isn't stuck, and behind which each value in reach has its shape.
use Rattle.std.specs.Prelude.{◌≡◌, ℕ, true, List, ◌++◌, map, slice_get, Some}
use Rattle.sail_types.specs.Shapes.{fits}
use Rattle.sail_types.specs.declared.shapes.Shape.{Shape}
use Rattle.sail_types.specs.declared.values.Value.{Value}
use Rattle.model_state.specs.RunState.{RunState}
use Rattle.sail_core.specs.Run as R
use Rattle.sail_core.specs.Run.{Now, Ended, Run}
use Rattle.sail_core.specs.Making.{World}
use Rattle.sail_core.specs.Patterns.{Matcher}
use Rattle.shape_rules.specs.declared.locals.Local.{Local}
use Rattle.shape_meanings.specs.Keeping.{Fits, FitAll, Suits, Reach, Good, Answers}

-- the registers of each hart
abbrev pub rows : RunState → List (List Value)
rows state = map (λ h. h.registers) state.harts

-- a moment at which each value in reach has its shape, each hart has each register, and the hart at work is there, where there is a register
pub record Ready (reach : Reach) (hart : ℕ) (now : Now Value) : Type 0 where
  pub good : Good reach now
  pub here : (r : ℕ) (s : Shape) → slice_get reach.registers r ≡ Some s → (vs : List Value) × (slice_get (rows now.state) hart ≡ Some vs)
  pub there : (k r : ℕ) (vs : List Value) (s : Shape) → slice_get (rows now.state) k ≡ Some vs → slice_get reach.registers r ≡ Some s
      → (v : Value) × (slice_get vs r ≡ Some v)

-- it isn't stuck; and where it doesn't stop the run, it keeps shapes
abbrev pub Goes : {A : Type 0} → Reach → World Value → (A → Type 0) → Ended Value A → Type 0
Goes reach w P (R.Gives x now) = P x × Ready reach w.hart now
Goes reach w P (R.No now) = Ready reach w.hart now
Goes reach w P (R.Returns v now) = Answers reach reach.answer v × Ready reach w.hart now
Goes reach w P (R.Throws v now) = (fits reach.types v reach.thrown ≡ true) × Ready reach w.hart now
Goes reach w P (R.Stops cause now) = Unit {0}
Goes reach w P R.Stuck = ⊥

-- from each such moment on
abbrev pub GoesOn : {A : Type 0} → Reach → World Value → (A → Type 0) → Run Value A → Type 0
GoesOn reach w P run = (now : Now Value) → Ready reach w.hart now → Goes reach w P (run now)

-- and gives a value of this shape
abbrev pub Has : Reach → World Value → Shape → Run Value Value → Type 0
Has reach w s run = GoesOn reach w (Fits reach.types reach.choice s) run

-- a pattern on any value of this shape: it binds names of these shapes, or says No
abbrev pub Binds : Reach → World Value → Shape → List Local → Matcher Value → Type 0
Binds reach w s binds m = (v : Value) → Fits reach.types reach.choice s v → GoesOn reach w (Suits reach.types reach.choice binds) (m v)

-- several, on values of these shapes
abbrev pub BindAll : Reach → World Value → List Shape → List Local → (List Value → Run Value (List (R.Local Value))) → Type 0
BindAll reach w ss binds m = (vs : List Value) → FitAll reach.types reach.choice ss vs → GoesOn reach w (Suits reach.types reach.choice binds) (m vs)

-- what is in reach under further names
abbrev pub under : Reach → List Local → Reach
under reach binds = record reach { slots = binds ++ reach.slots }
