-- A walk beside a run of the checked meaning: what holds of the run's end where the walk's notes are met. Each step of a walk has a lemma that says
-- so (`proofs/Steps`), and each form is put together of them.
use Rattle.std.specs.Prelude.{◌≡◌, ◌≤◌, ℕ, true, List, [], ◌++◌}
use Rattle.sail_types.specs.declared.values.Value.{Value}
use Rattle.model_state.specs.declared.cause.Cause.{Cause}
use Rattle.sail_core.specs.Run as R
use Rattle.sail_core.specs.Run.{Now, Ended, Run}
use Rattle.value_indices.specs.declared.notes.Fact.{Fact}
use Rattle.value_indices.specs.Steps.{Note, Walk, went, give}
use Rattle.value_laws.specs.Belonging.{Integers}
use Rattle.value_laws.specs.Known.{Point, Agree}
use Rattle.checked_meaning.specs.Items.{Item}
use Rattle.checked_meaning.specs.Checked.{Noted}
use Rattle.soundness_steps.specs.Points.{Later}
use Rattle.soundness_steps.specs.Works.{Work, Setting, Scene}
use Rattle.soundness_steps.specs.Noted.{IsSo, with_given}
use Rattle.soundness_steps.specs.Covers.{AreMet}
use Rattle.soundness_steps.specs.States.{Sound, IsThrown, IsAnswer}

abbrev pub AllMet : Scene → List Note → Type 0
AllMet q notes = AreMet q.set q.work q.reached q.cases notes

-- what is so at a point of a walk, whatever the variables stand for that aren't fixed
pub record Stands (set : Setting) (work : Work) (noted : Noted) {n : ℕ} (f : Point n) (facts : List Fact) : Type 0 where
  pub there : (g : Integers) → Agree f g → IsSo set.past work noted g facts

-- a later point at which it is so too, and something more holds
pub record Reach (set : Setting) (work : Work) (noted : Noted) {n : ℕ} (f : Point n) (m : ℕ) (facts : List Fact) (Holds : Point m → Type 0) : Type 0 where
  pub point : Point m
  pub later : Later f point
  pub stands : Stands set work noted point facts
  pub holds : Holds point

-- how a piece may end: never stuck
pub data EndsWell (q : Scene) {n : ℕ} (f : Point n) (m : ℕ) (facts : List Fact) {B : Type 0} (Holds : Point m → B → Type 0) : Ended Item B → Type 0 where
  well_given : (x : B) (now : Now Item) → Reach q.set q.work now.opened f m facts (λ p. Holds p x) → Sound q now → EndsWell q f m facts Holds (R.Gives x now)
  well_no : (now : Now Item) → q.may_fall ≡ true → Sound q now → EndsWell q f m facts Holds (R.No now)
  well_returned : (v : Value) (now : Now Item) → IsAnswer q.set.around.types q.answer v → Sound q now → EndsWell q f m facts Holds (R.Returns v now)
  well_thrown : (v : Value) (now : Now Item) → IsThrown q.set q.set.around.exception v → Sound q now → EndsWell q f m facts Holds (R.Throws v now)
  well_stopped : (cause : Cause) (now : Now Item) → EndsWell q f m facts Holds (R.Stops cause now)

-- a piece beside a walk: wherever what is in force is so and the walk's notes are met, it ends well
pub record Beside (q : Scene) (n : ℕ) (f : Point n) (facts : List Fact) {A B : Type 0} (walk : Walk A) (piece : Run Item B)
    (Holds : (m : ℕ) → Point m → A → B → Type 0) : Type 0 where
  pub run : (now : Now Item) → Stands q.set q.work now.opened f facts → AllMet q (walk facts n).notes → Sound q now
      → EndsWell q f (walk facts n).next (walk facts n).facts (λ p x. Holds (walk facts n).next p (walk facts n).value x) (piece now)

-- beside no walk at all
abbrev pub no_walk : Walk (Unit {0})
no_walk = give tt

-- a walk alone, whatever numbers are noted
pub record Walks (q : Scene) (n : ℕ) (f : Point n) (facts : List Fact) {A : Type 0} (walk : Walk A) (Holds : (m : ℕ) → Point m → A → Type 0) : Type 0 where
  pub go : (noted : Noted) → Stands q.set q.work noted f facts → AllMet q (walk facts n).notes
      → Reach q.set q.work noted f (walk facts n).next (walk facts n).facts (λ p. Holds (walk facts n).next p (walk facts n).value)

-- a walk behind which what was in force still is, and whose next variable is never before the one that it began with
pub record Grows {A : Type 0} (walk : Walk A) : Type 0 where
  pub onward : (facts : List Fact) (n : ℕ) → n ≤ (walk facts n).next
  -- what comes into force
  pub more : List Fact → ℕ → List Fact
  pub extends : (facts : List Fact) (n : ℕ) → (walk facts n).facts ≡ facts ++ more facts n

-- a walk that only says that the numbers of these variables are given
abbrev pub Gives : Walk (Unit {0}) → List ℕ → Type 0
Gives walk vs = (facts : List Fact) (n : ℕ) → walk facts n ≡ went tt (with_given facts vs) n []
