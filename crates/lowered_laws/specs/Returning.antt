-- What never ends with `return`: bodies without one, where nothing around them does.
use Rattle.std.specs.Prelude.{◌≡◌, ℕ, Bool, true, false, ◌&&◌, List, [], ◌∷◌, Some, slice_get}
use Rattle.sail_base.specs.declared.place.Place.{Place}
use Rattle.sail_types.specs.declared.table.Types.{Types}
use Rattle.sail_types.specs.declared.values.Value.{Value}
use Rattle.sail_core.specs.declared.tree.Kind.{Kind}
use Rattle.sail_core.specs.declared.tree.Kind.TheVariants as K
use Rattle.sail_core.specs.declared.tree.Core.{Core, fold-Core}
use Rattle.sail_core.specs.Run as R
use Rattle.sail_core.specs.Run.{Ended, Now, Run}
use Rattle.sail_core.specs.declared.model.Direction.{Direction}
use Rattle.sail_core.specs.Numbers.{Awaited, Givens}
use Rattle.sail_core.specs.Program.{Measures, Setting, asking, calls, ways}
use Rattle.sail_core.specs.Making.{World}
use Rattle.sail_core.specs.Meaning.{meaning}
use Rattle.checked_meaning.specs.Checked.{Cases, checked}
use Rattle.checked_meaning.specs.Items.{Item}

abbrev pub Stays : {A : Type 0} → Ended Item A → Type 0
Stays (R.Returns v t) = ⊥
Stays o = Unit {0}

abbrev pub Quiet : {A : Type 0} → Run Item A → Type 0
Quiet run = (now : Now Item) → Stays (run now)

pub record QuietWorld (w : World Item) : Type 0 where
  pub call : (place : Place) (i : ℕ) (awaited : Awaited) (vs : List Value) → Quiet (w.call place i awaited vs)
  pub enter : (d : ℕ) (v : Value) → Quiet (w.enter d v)
  pub way : (d : ℕ) (x : Item) → Quiet (w.way d x)

-- ---- bodies

abbrev pub stays_here : Kind → Bool
stays_here K.Return = false
stays_here kind = true

abbrev pub all_so : List Bool → Bool
all_so [] = true
all_so (b ∷ bs) = b && all_so bs

abbrev pub returns_nothing : Core → Bool
returns_nothing = fold-Core Bool (λ c. stays_here c.kind && all_so c.parts)

abbrev pub BodiesStay : Type 0
BodiesStay = (types : Types) (cases : Cases) (w : World Item) → QuietWorld w → (c : Core) → returns_nothing c ≡ true
    → Quiet (meaning (checked types cases) w c)

-- ---- models: nothing returns to the outside of a function, or of a direction whose body has no `return`, however many are inside one another

abbrev pub WorldsStay : Type 0
WorldsStay = (types : Types) (s : Setting Item) (read : ℕ → Cases)
    → ((d : ℕ) (m : Direction) → slice_get s.directions d ≡ Some m
    → (s.sizing.direction d ≡ checked types (read d)) × (returns_nothing m.body ≡ true))
    → (n : ℕ) (active : Measures) (rank : ℕ) (nu : Givens) (xs : List Item)
    → QuietWorld (asking s (calls s n) active (ways s (calls s n) active rank) nu xs)
