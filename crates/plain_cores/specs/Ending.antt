-- A run that ends neither with No nor by throwing, and the law that cores which decide end so, where what they call does.
use Rattle.std.specs.Prelude.{◌≡◌, true, ℕ, List, None}
use Rattle.sail_base.specs.declared.place.Place.{Place}
use Rattle.sail_types.specs.declared.values.Value.{Value}
use Rattle.sail_core.specs.declared.tree.Core.{Core}
use Rattle.sail_core.specs.Run as R
use Rattle.sail_core.specs.Run.{Ended, Now, Run}
use Rattle.sail_core.specs.Making.{World}
use Rattle.shape_progress.specs.Checks.{Table, checked}
use Rattle.plain_cores.specs.Ends.{decides}

-- an end that neither says No nor throws, and one that doesn't throw
abbrev pub IsInside : {A : Type 0} → Ended Value A → Type 0
IsInside (R.No now) = ⊥
IsInside (R.Throws v now) = ⊥
IsInside e = Unit {0}

abbrev pub IsCalm : {A : Type 0} → Ended Value A → Type 0
IsCalm (R.Throws v now) = ⊥
IsCalm e = Unit {0}

-- a piece that always ends so
abbrev pub Inside : {A : Type 0} → Run Value A → Type 0
Inside r = (now : Now Value) → IsInside (r now)

abbrev pub Calm : {A : Type 0} → Run Value A → Type 0
Calm r = (now : Now Value) → IsCalm (r now)

-- calls and directions that are called end inside, and directions in patterns don't throw
pub record IsAtRest (w : World Value) : Type 0 where
  pub call : (place : Place) (i : ℕ) (vs : List Value) → Inside (w.call place i None vs)
  pub enter : (d : ℕ) (v : Value) → Inside (w.enter d v)
  pub way : (d : ℕ) (v : Value) → Calm (w.way d v)

-- in the checked reading
abbrev pub DecidedCoresEnd : Type 0
DecidedCoresEnd = (t : Table) (w : World Value) → IsAtRest w → (c : Core) → decides c ≡ true → Inside (checked t w c)
