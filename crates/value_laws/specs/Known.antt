-- What a walk takes to be known, beside a value in hand: it holds, for some integers of the walk's new variables.
use Rattle.std.specs.Prelude.{◌≡◌, ◌<◌, ◌≤◌, ℕ, Bool, true, List, [], ◌∷◌}
use Rattle.sail_types.specs.Numbers.{Assignment, Positive, true_in}
use Rattle.sail_types.specs.declared.numbers.Con.{Con}
use Rattle.value_indices.specs.declared.notes.Fact.{Fact}
use Rattle.value_indices.specs.declared.notes.Fact.TheVariants as Y
use Rattle.value_indices.specs.Steps.{Walk, Went, conditions}
use Rattle.value_laws.specs.Belonging.{Integers, standing}

-- ---- what is in force

abbrev pub AllTrue : Assignment → List Con → Type 0
AllTrue mu [] = Unit {0}
AllTrue mu (c ∷ cs) = (true_in mu c ≡ true) × AllTrue mu cs

abbrev pub InForce : Positive → Integers → List Fact → Type 0
InForce past f facts = AllTrue (standing past f) (conditions facts)

-- the variables whose numbers are noted
abbrev pub given_in : List Fact → List ℕ
given_in [] = []
given_in (Y.Holds c ∷ facts) = given_in facts
given_in (Y.IsGiven v ∷ facts) = v ∷ given_in facts

-- the variables that are fixed, and what they stand for; variables are counted from n on
pub record Point (n : ℕ) : Type 0 where
  pub fixed : ℕ → Bool
  pub integers : Integers
  pub before : (i : ℕ) → fixed i ≡ true → i < n

-- integers that are the same for these variables
pub record Agree {n : ℕ} (f : Point n) (g : Integers) : Type 0 where
  pub same : (i : ℕ) → f.fixed i ≡ true → f.integers i ≡ g i

-- where more of them may be fixed, none of which is from before
pub record Later {n m : ℕ} (f : Point n) (g : Point m) : Type 0 where
  pub onward : n ≤ m
  pub fixed : (i : ℕ) → f.fixed i ≡ true → g.fixed i ≡ true
  pub same : (i : ℕ) → f.fixed i ≡ true → f.integers i ≡ g.integers i
  pub new : (i : ℕ) → g.fixed i ≡ true → i < n → f.fixed i ≡ true

-- ---- behind a walk

-- there are integers for the new variables, with which all that came into force is true, and this holds of what the walk gave, whatever
-- the variables stand for that aren't fixed; and no number more is noted
pub record Known (past : Positive) (n : ℕ) (f : Point n) (facts : List Fact) {A : Type 0} (went : Went A) (Holds : Integers → A → Type 0) : Type 0 where
  pub point : Point went.next
  pub later : Later f point
  pub true_there : (g : Integers) → Agree point g → InForce past g facts → InForce past g went.facts
  pub holds : (g : Integers) → Agree point g → Holds g went.value
  pub given : given_in went.facts ≡ given_in facts

-- a walk that begins there
pub record Goes (past : Positive) (n : ℕ) (f : Point n) (facts : List Fact) {A : Type 0} (walk : Walk A) (Holds : Integers → A → Type 0) : Type 0 where
  pub goes : Known past n f facts (walk facts n) Holds
