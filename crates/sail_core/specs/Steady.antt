-- What every run of the core leaves as it is, and what it only adds to.
use Rattle.std.specs.Prelude.{◌≡◌, ℕ, ◌≤◌, Bool, true, false, List, ◌++◌, map}
use Rattle.sail_base.specs.declared.place.Place.{Place}
use Rattle.sail_types.specs.declared.values.Value.{Value}
use Rattle.model_state.specs.declared.cause.Cause.{Cause}
use Rattle.model_state.specs.declared.cause.Cause.TheVariants.{StepsDone}
use Rattle.model_state.specs.RunState.{RunState, Access, Ran}
use Rattle.model_state.specs.Folds.{Keeps, IsNotDone}
use Rattle.sail_core.specs.declared.tree.Core.{Core}
use Rattle.sail_core.specs.declared.model.CoreModel.{CoreModel}
use Rattle.sail_core.specs.Run as R
use Rattle.sail_core.specs.Run.{Local, Now, Ended, Run}
use Rattle.sail_core.specs.Numbers.{Awaited}
use Rattle.sail_core.specs.Making.{World}
use Rattle.sail_core.specs.Meaning.{core_meaning}
use Rattle.sail_core.specs.Start.{model_meaning}

abbrev pub names_of : List (Local Value) → List (List ℕ)
names_of locals = map (λ l. l.name) locals

-- a later moment of a run: no tick came back; the machine's registers, harts and RAM are those of before, with more on the console at
-- most; accesses were added at the end; and the same names are in scope
pub record Later (before after : Now Value) : Type 0 where
  pub ticks : after.ticks ≤ before.ticks
  pub state : Keeps before.state after.state
  pub more : List Access
  pub accesses : after.accesses ≡ before.accesses ++ more
  pub names : names_of after.locals ≡ names_of before.locals

abbrev pub is_done : Cause → Bool
is_done StepsDone = true
is_done cause = false

-- a piece that ends later, however it ends; and no stop is the schedule's end
abbrev pub EndsLater : {A : Type 0} → Now Value → Ended Value A → Type 0
EndsLater before (R.Gives x after) = Later before after
EndsLater before (R.No after) = Later before after
EndsLater before (R.Returns v after) = Later before after
EndsLater before (R.Throws v after) = Later before after
EndsLater before (R.Stops cause after) = Later before after × (is_done cause ≡ false)
EndsLater before R.Stuck = Unit {0}

abbrev pub Steady : {A : Type 0} → Run Value A → Type 0
Steady run = (now : Now Value) → EndsLater now (run now)

pub record SteadyWorld (w : World Value) : Type 0 where
  pub call : (p : Place) (i : ℕ) (awaited : Awaited) (vs : List Value) → Steady (w.call p i awaited vs)
  pub enter : (d : ℕ) (v : Value) → Steady (w.enter d v)
  pub way : (d : ℕ) (v : Value) → Steady (w.way d v)

-- each node is steady where the world around it is
abbrev pub NodesAreSteady : Type 0
NodesAreSteady = (w : World Value) → SteadyWorld w → (c : Core) → Steady (core_meaning w c)

-- a part of a run that keeps what every part of a run keeps, and doesn't end as the schedule does
pub record Keeping (before : RunState) (ran : Ran) : Type 0 where
  pub keeps : Keeps before ran.state
  pub not_done : IsNotDone ran.ended

-- the start and the events of each model do
abbrev pub ModelsKeep : Type 0
ModelsKeep = (m : CoreModel) (state : RunState)
    → Keeping state ((model_meaning m).init state)
    × ((hart entry : ℕ) → Keeping state ((model_meaning m).reset hart entry state))
    × ((hart : ℕ) → Keeping state ((model_meaning m).step hart state))
