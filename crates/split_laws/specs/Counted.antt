-- When the present numbers stand in a combination that counts (Sail language manual, "Type variables").
use Rattle.std.specs.Prelude.{◌≡◌, ◌⊎◌, ℕ, ℤ, List, [], ◌∷◌, ◌++◌, Some}
use Rattle.sail_types.specs.Numbers.{Positive}
use Rattle.sail_types.specs.declared.numbers.Num.{Num}
use Rattle.value_indices.specs.declared.notes.Fact.{Fact}
use Rattle.value_indices.specs.Steps.{conditions}
use Rattle.size_values.specs.declared.constants.Constant.{Constant}
use Rattle.size_values.specs.declared.constants.Constant.TheVariants as C
use Rattle.size_values.specs.declared.constants.Picked.{Picked}
use Rattle.size_values.specs.Numbers.{Known, constant_under, known_at}
use Rattle.size_splits.specs.Splits.{counted}
use Rattle.value_laws.specs.Belonging.{Integers, standing}
use Rattle.value_laws.specs.Known.{AllTrue}

-- the variables that are known have these integers
abbrev pub Agrees : Known → Integers → Type 0
Agrees k f = (v : ℕ) (z : ℤ) → k v ≡ Some z → f v ≡ z

-- the numbers that are taken are those of their variables
abbrev pub AreTaken : Integers → List Picked → Type 0
AreTaken f [] = Unit {0}
AreTaken f (p ∷ ps) = (f p.variable ≡ p.number) × AreTaken f ps

abbrev pub IsIn : {A : Type 0} → A → List A → Type 0
IsIn x [] = ⊥
IsIn x (y ∷ ys) = (x ≡ y) ⊎ IsIn x ys

-- one of the combinations that count there
pub record IsCounted (k : Known) (vs : List ℕ) (facts own : List Fact) (f : Integers) : Type 0 where
  pub taken : List Picked
  pub is_there : IsIn taken (counted k vs facts own)
  pub are : AreTaken f taken

abbrev pub PresentNumbersAreCounted : Type 0
PresentNumbersAreCounted = (past : Positive) (f : Integers) (k : Known) (vs : List ℕ) (facts own : List Fact) → Agrees k f
    → AllTrue (standing past f) (conditions facts) → AllTrue (standing past f) (conditions (facts ++ own)) → IsCounted k vs facts own f

-- ---- what is constant where some variables are known is the same where all are

abbrev pub all_known : Integers → ℕ → Constant
all_known f v = C.Number (f v)

abbrev pub ConstantsStand : Type 0
ConstantsStand = (k : Known) (f : Integers) → Agrees k f → (t : Num) (z : ℤ) → constant_under (known_at k) t ≡ C.Number z
    → constant_under (all_known f) t ≡ C.Number z
