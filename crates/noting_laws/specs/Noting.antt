-- Behind a node the numbers that its value gives are noted, and those that were noted before are still (Sail language manual, "Type variables").
use Rattle.std.specs.Prelude.{◌≡◌, ◌⊎◌, ℕ, true, List, [], ◌∷◌, Some}
use Rattle.sail_types.specs.Belongs.{Reading as Closed}
use Rattle.sail_types.specs.Numbers.{Positive}
use Rattle.sail_types.specs.declared.table.Types.{Types}
use Rattle.sail_types.specs.declared.values.Value.{Value}
use Rattle.value_indices.specs.declared.indices.Indices.{Indices}
use Rattle.value_laws.specs.Belonging.{Integers, has, standing}
use Rattle.split_laws.specs.Counted.{IsIn}
use Rattle.soundness_steps.specs.Noted.{variables_given}
use Rattle.checked_meaning.specs.Checked.{Noted}
use Rattle.sized_meanings.specs.Noting.{noted_by_each}

-- one of these indices gives the variable's number
abbrev pub IsNamed : ℕ → List Indices → Type 0
IsNamed w [] = ⊥
IsNamed w (i ∷ is) = IsIn w (variables_given i) ⊎ IsNamed w is

-- the variable's integer is noted, where it was or one of the indices gives it, and the value has each of the indices that give it
abbrev pub NumbersAreNoted : Type 0
NumbersAreNoted = (types : Types) (past : Positive) (f : Integers) (own : List Closed) (is : List Indices) (v : Value) (noted : Noted) (w : ℕ)
    → ((i : Indices) → IsIn i is → IsIn w (variables_given i) → has types (standing past f) own i v ≡ true)
    → (noted w ≡ Some (f w)) ⊎ IsNamed w is → noted_by_each is v noted w ≡ Some (f w)
