-- The checked reading of any core is its meaning but for its stops: a run is the same in both, or it stops where a condition fails. So a core
-- that has a shape is stuck only there.
use Rattle.std.specs.Prelude.{◌≡◌, ◌⊎◌, ℕ, List}
use Rattle.sail_base.specs.declared.place.Place.{Place}
use Rattle.sail_types.specs.declared.shapes.Shape.{Shape}
use Rattle.sail_types.specs.declared.values.Value.{Value}
use Rattle.model_state.specs.declared.cause.Cause.TheVariants.{StepsDone}
use Rattle.sail_core.specs.declared.tree.Core.{Core}
use Rattle.sail_core.specs.Run as R
use Rattle.sail_core.specs.Run.{Now, Ended, Run}
use Rattle.sail_core.specs.Making.{World}
use Rattle.sail_core.specs.Numbers.{Awaited}
use Rattle.sail_core.specs.Meaning.{core_meaning}
use Rattle.shape_meanings.specs.Keeping.{Reach}
use Rattle.shape_progress.specs.Checks.{Table, checked}
use Rattle.shape_progress.specs.Going.{Ready}
use Rattle.shape_progress.specs.Rules.{IsShaped}

-- a run that stopped where a condition fails
abbrev pub IsUnmet : {A : Type 0} → Ended Value A → Type 0
IsUnmet (R.Stops StepsDone now) = Unit {0}
IsUnmet e = ⊥

-- a piece, and what it is in the checked reading
abbrev pub AsMeant : {A : Type 0} → Run Value A → Run Value A → Type 0
AsMeant plain piece = (now : Now Value) → (piece now ≡ plain now) ⊎ IsUnmet (piece now)

-- ---- callees, which may be in the checked reading too

-- what a world calls: functions, and directions of mappings in calls and in patterns
pub record Callees : Type 0 where
  pub call : Place → ℕ → Awaited → List Value → Run Value Value
  pub enter : ℕ → Value → Run Value Value
  pub way : ℕ → Value → Run Value Value

-- a world with other callees
abbrev pub calling : World Value → Callees → World Value
calling w callees = record w { call = callees.call; enter = callees.enter; way = callees.way }

-- each of them is as the world's own
pub record CalledAsMeant (w : World Value) (callees : Callees) : Type 0 where
  pub call : (place : Place) (i : ℕ) (awaited : Awaited) (vs : List Value) → AsMeant (w.call place i awaited vs) (callees.call place i awaited vs)
  pub enter : (d : ℕ) (v : Value) → AsMeant (w.enter d v) (callees.enter d v)
  pub way : (d : ℕ) (v : Value) → AsMeant (w.way d v) (callees.way d v)

-- ---- the laws

abbrev pub CheckedIsMeant : Type 0
CheckedIsMeant =
    (t : Table) (w : World Value) (callees : Callees) → CalledAsMeant w callees → (c : Core) → AsMeant (core_meaning w c) (checked t (calling w callees) c)

-- wherever each value in reach has its shape
abbrev pub StuckAtConditions : Type 0
StuckAtConditions =
    (n : ℕ) (t : Table) (w : World Value) (callees : Callees) → CalledAsMeant w callees → (reach : Reach) (s : Shape) (c : Core) (now : Now Value)
    → t.types ≡ reach.types → IsShaped n (calling w callees) reach s c → Ready reach w.hart now → core_meaning w c now ≡ R.Stuck
    → IsUnmet (checked t (calling w callees) c now)
