-- A walk beside a piece of a run of the checked meaning: wherever what is in force is true and the walk's obligations hold, the piece isn't stuck, and
-- behind it what came into force is true.
use Rattle.std.specs.Prelude.{◌≡◌, ℕ, Bool, true, List, [], ◌∷◌}
use Rattle.sail_types.specs.Numbers.{Positive, true_in}
use Rattle.sail_types.specs.declared.values.Value.{Value}
use Rattle.model_state.specs.declared.cause.Cause.{Cause}
use Rattle.sail_core.specs.Run as R
use Rattle.sail_core.specs.Run.{Now, Ended, Run}
use Rattle.value_indices.specs.declared.notes.Fact.{Fact}
use Rattle.value_indices.specs.declared.notes.Made.{Made}
use Rattle.value_indices.specs.Steps.{Note, goal_note, size_note, way_note, Walk}
use Rattle.checked_meaning.specs.Items.{Item}
use Rattle.checked_meaning.specs.Checked.{Noted}
use Rattle.value_laws.specs.Belonging.{Integers, standing}
use Rattle.value_laws.specs.Known.{InForce, Point, Agree, Later, given_in}

-- what holds of the sizes of what is made
abbrev pub OfSizes : Type 1
OfSizes = Integers → Made → Type 0

-- what holds of every moment, of what is returned and of what is thrown, of integers where these variables are given, and the directions of mappings that
-- patterns go through
pub record Ends (fit : OfSizes) : Type 1 where
  pub keeps : Now Item → Type 0
  pub answer : Value → Type 0
  pub thrown : Value → Type 0
  pub reached : ℕ → Bool
  pub so : Integers → List ℕ → Type 0

-- what is in force at a point is true, and the numbers that are given are those of the run, whatever variables stand for that aren't fixed
pub record Stands {fit : OfSizes} (q : Ends fit) (past : Positive) {n : ℕ} (f : Point n) (facts : List Fact) : Type 0 where
  pub there : (g : Integers) → Agree f g → InForce past g facts
  pub so : (g : Integers) → Agree f g → q.so g (given_in facts)

-- a later point at which all that is in force by then is true, no number more is noted, and this holds
pub record Reach {fit : OfSizes} (q : Ends fit) (past : Positive) {n : ℕ} (f : Point n) (facts : List Fact) (m : ℕ) (more : List Fact)
    (Then : Point m → Type 0) : Type 0 where
  pub point : Point m
  pub later : Later f point
  pub stands : Stands q past point more
  pub given : given_in more ≡ given_in facts
  pub holds : Then point

-- an obligation holds where its goal is true wherever what is in force there is; there sizes that are noted fit, and directions are reached
abbrev pub Met : {fit : OfSizes} → Ends fit → Positive → Note → Type 0
Met q past (goal_note facts place c) = (g : Integers) → InForce past g facts → true_in (standing past g) c ≡ true
Met {fit} q past (size_note facts place made) = (g : Integers) → InForce past g facts → q.so g (given_in facts) → fit g made
Met q past (way_note facts d) = (g : Integers) → InForce past g facts → q.so g (given_in facts) → q.reached d ≡ true
Met q past note = Unit {0}

abbrev pub AllMet : {fit : OfSizes} → Ends fit → Positive → List Note → Type 0
AllMet q past [] = Unit {0}
AllMet q past (n ∷ ns) = Met q past n × AllMet q past ns

-- how a piece ends that is never stuck; where it gives something, the same numbers are noted
pub data EndsWell {fit : OfSizes} (q : Ends fit) (noted : Noted) {B : Type 0} (Holds : B → Type 0) : Ended Item B → Type 0 where
  well_given : (x : B) (now : Now Item) → Holds x → q.keeps now → now.opened ≡ noted → EndsWell q noted Holds (R.Gives x now)
  well_no : (now : Now Item) → q.keeps now → EndsWell q noted Holds (R.No now)
  well_returned : (v : Value) (now : Now Item) → q.answer v → q.keeps now → EndsWell q noted Holds (R.Returns v now)
  well_thrown : (v : Value) (now : Now Item) → q.thrown v → q.keeps now → EndsWell q noted Holds (R.Throws v now)
  well_stopped : (cause : Cause) (now : Now Item) → EndsWell q noted Holds (R.Stops cause now)

-- what holds at a point of what a walk gave and of what a piece gave
abbrev pub Behind : Type 0 → Type 0 → Type 1
Behind A B = (m : ℕ) → Point m → A → B → Type 0

pub record Beside {fit : OfSizes} (q : Ends fit) (past : Positive) (n : ℕ) (f : Point n) (facts : List Fact) {A B : Type 0} (walk : Walk A) (piece : Run Item B)
    (Then : Behind A B) : Type 0 where
  pub run : (now : Now Item) → Stands q past f facts → AllMet q past (walk facts n).notes → q.keeps now
      → EndsWell q now.opened (λ x. Reach q past f facts (walk facts n).next (walk facts n).facts (λ p. Then (walk facts n).next p (walk facts n).value x))
      (piece now)
