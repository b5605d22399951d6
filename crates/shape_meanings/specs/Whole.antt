-- Shapes that leave nothing open, and those that have no variable either.
use Rattle.std.specs.Prelude.{◌≡◌, ◌⊎◌, ℕ, nat_lt, Bool, true, false, ◌&&◌, List, [], ◌∷◌, map}
use Rattle.sail_types.specs.Shapes.{fits, put}
use Rattle.sail_types.specs.declared.shapes.Shape.{Shape, Shape-F, fold-Shape}
use Rattle.sail_types.specs.declared.shapes.Shape.TheOpen as S
use Rattle.sail_types.specs.declared.table.Types.{Types}
use Rattle.sail_types.specs.declared.values.Value.{Value}

-- what the Type variables of the function at work stand for
abbrev pub Choice : Type 0
Choice = ℕ → Shape

abbrev pub all_of : List Bool → Bool
all_of [] = true
all_of (b ∷ bs) = b && all_of bs

-- no part is a hole or never ends, and each variable is one of so many
abbrev pub below_form : ℕ → Shape-F Bool → Bool
below_form n S.Hole = false
below_form n S.Never = false
below_form n (S.List b) = b
below_form n (S.Vector b) = b
below_form n (S.Tuple bs) = all_of bs
below_form n (S.Named i bs) = all_of bs
below_form n (S.Variable i) = nat_lt i n
below_form n form = true

abbrev pub below : ℕ → Shape → Bool
below n = fold-Shape Bool (below_form n)

abbrev pub all_below : ℕ → List Shape → Bool
all_below n ss = all_of (map (below n) ss)

-- a shape without a variable
abbrev pub closed : Shape → Bool
closed = below 0

-- what a variable can be assigned that has this shape: it leaves nothing open, or no value has it
abbrev pub IsSettled : Types → Shape → Type 0
IsSettled types s = ((n : ℕ) × (below n s ≡ true)) ⊎ ((c : Choice) (v : Value) → fits types v (put c s) ≡ false)
