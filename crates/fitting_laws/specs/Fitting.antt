-- What `fits` asks suffices: where it is true, a value of the indices belongs to the type.
use Rattle.std.specs.Prelude.{◌≡◌, ℕ, true, false, List, [], ◌∷◌, Some, None}
use Rattle.sail_types.specs.Belongs.{Reading as Closed}
use Rattle.sail_types.specs.Numbers.{Assignment, Positive, true_in}
use Rattle.sail_types.specs.declared.table.Types.{Types}
use Rattle.sail_types.specs.declared.values.Value.{Value}
use Rattle.value_indices.specs.Steps.{conditions, Conditions}
use Rattle.value_indices.specs.declared.indices.Indices.{Indices}
use Rattle.value_indices.specs.declared.indices.Reading.{Reading}
use Rattle.value_fits.specs.declared.fitted.Fitted.{Fitted}
use Rattle.value_fits.specs.Fitting.{fits}
use Rattle.call_arguments.specs.Holes.{has_hole}
use Rattle.value_laws.specs.Belonging.{Integers, standing, meant, closed, has, is_of}
use Rattle.value_laws.specs.Known.{AllTrue, given_in, Point, Agree, Later}

-- all of them can be said, and are true
abbrev pub Said : Assignment → Conditions → Type 0
Said mu [] = Unit {0}
Said mu (None ∷ cs) = ⊥
Said mu (Some c ∷ cs) = (true_in mu c ≡ true) × Said mu cs

-- what comes into force with conditions is true for some integers of their new variables; and wherever later on the conditions are true,
-- whatever variables stand for that aren't fixed, this holds
pub record Suffices (past : Positive) (n : ℕ) (f : Point n) (a : Fitted) (Then : Integers → Type 0) : Type 0 where
  pub point : Point a.next
  pub later : Later f point
  pub true_there : (g : Integers) → Agree point g → AllTrue (standing past g) (conditions a.facts)
  pub given : given_in a.facts ≡ []
  pub suffices : {m : ℕ} (p : Point m) → Later point p → ((g : Integers) → Agree p g → Said (standing past g) a.conditions)
      → (g : Integers) → Agree p g → Then g

-- a value that has the indices belongs to the type, where what both are hangs on fixed variables alone, and nothing in the type is a hole
abbrev pub FittingSuffices : Type 0
FittingSuffices = (types : Types) (past : Positive) (own : List Closed) (i : Indices) (r : Reading) (n : ℕ) (f : Point n) (v : Value)
    → has_hole r ≡ false
    → ((g : Integers) → Agree f g → meant types (standing past g) own i ≡ meant types (standing past f.integers) own i)
    → ((g : Integers) → Agree f g → closed types (standing past g) own r ≡ closed types (standing past f.integers) own r)
    → has types (standing past f.integers) own i v ≡ true
    → Suffices past n f (fits types i r n) (λ g. is_of types (standing past g) own r v ≡ true)
