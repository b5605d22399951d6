-- The laws: a pattern, and an arm of patterns, beside its run.
use Rattle.std.specs.Prelude.{◌≡◌, ℕ, Bool, true, List, [], ◌∷◌}
use Rattle.sail_base.specs.declared.place.Place.{Place}
use Rattle.sail_types.specs.Belongs.{Reading as Closed}
use Rattle.sail_types.specs.Numbers.{Positive}
use Rattle.sail_types.specs.declared.table.Types.{Types}
use Rattle.sail_types.specs.declared.values.Value.{Value}
use Rattle.size_values.specs.declared.sized.Sized.{Sized}
use Rattle.sail_core.specs.declared.patterns.Arm.{Arm}
use Rattle.sail_core.specs.declared.patterns.Pattern.{Pattern}
use Rattle.sail_core.specs.Making.{World}
use Rattle.sail_core.specs.Run.{Now}
use Rattle.sail_core.specs.Patterns.{arm_meaning, matcher}
use Rattle.value_indices.specs.declared.indices.Indices.{Indices}
use Rattle.value_indices.specs.declared.indices.Reading.{Reading}
use Rattle.value_indices.specs.declared.notes.Fact.{Fact}
use Rattle.value_indices.specs.declared.notes.Made.{Made}
use Rattle.checked_meaning.specs.Items.{Item}
use Rattle.checked_meaning.specs.Checked.{Cases, checked}
use Rattle.pattern_leaves.specs.Settings.{Around}
use Rattle.pattern_notes.specs.declared.matching.Matching.{Matching}
use Rattle.pattern_notes.specs.Patterns.{arm_match, arm_written, look, looks, matched, one_match}
use Rattle.value_laws.specs.Belonging.{Integers}
use Rattle.value_laws.specs.Known.{Point}
use Rattle.pattern_laws.specs.Beside.{Ends, OfSizes, Beside}
use Rattle.pattern_laws.specs.Typing.{AllBear, Bears, IsKept, NamesBear, Typing}
use Rattle.pattern_laws.specs.Standing.{arm_stands, stands}
use Rattle.pattern_laws.specs.Grounds.{Grounded, IsOwed, Ways}

module _ (around : Around) (past : Positive) (own : List Closed) {fit : OfSizes} (y : Typing around.types past own fit) (q : Ends fit) where
  -- a pattern that stands, matched with a value of the indices that the walk knows: where what is in force is true and its obligations hold, its run is
  -- never stuck; where it matches, the names are those of the walk, their values have the indices that the walk gives them and are of the types that are
  -- written at them, and all that came into force is true
  abbrev pub PatternIsSound : Type 0
  PatternIsSound = (cases : Cases) (w : World Item) → Ways around past own y q w → (p : Pattern) (how : Matching) (i : Indices) (x : Item) (n : ℕ)
      (f : Point n) (facts : List Fact) → Bears around.types past own y f i x → Grounded past around w.numbers f
      → IsOwed around past own f how (look p).written x → stands around.types around.numbers p ≡ true
      → Beside q past n f facts (matched p around how i) (matcher (checked around.types cases) w p x) (NamesBear around.types past own y around.numbers)

  -- so is an arm that looks at several values
  abbrev pub ArmIsSound : Type 0
  ArmIsSound = (cases : Cases) (w : World Item) → Ways around past own y q w → (place : Place) (arm : Arm) (how : Matching) (is : List Indices)
      (xs : List Item) (n : ℕ) (f : Point n) (facts : List Fact) → AllBear around.types past own y f is xs → Grounded past around w.numbers f
      → arm_stands around.types around.numbers arm ≡ true
      → Beside q past n f facts (arm_match place arm around how is) (arm_meaning (checked around.types cases) w arm xs)
      (NamesBear around.types past own y around.numbers)

  -- and one that looks at one value, what its type owes being owed already or not
  abbrev pub LetIsSound : Type 0
  LetIsSound = (cases : Cases) (w : World Item) → Ways around past own y q w → (place : Place) (arm : Arm) (how : Matching) (i : Indices) (x : Item) (n : ℕ)
      (f : Point n) (facts : List Fact) → Bears around.types past own y f i x → Grounded past around w.numbers f
      → IsOwed around past own f how (arm_written arm) x → arm_stands around.types around.numbers arm ≡ true
      → Beside q past n f facts (one_match place (looks arm) around how i) (arm_meaning (checked around.types cases) w arm (x ∷ []))
      (NamesBear around.types past own y around.numbers)

-- ---- what holds of moments, of what is returned and thrown, of directions, of the sizes that are noted, and of the types that values carry, as tests

pub record Tests (types : Types) (past : Positive) (own : List Closed) : Type 0 where
  pub keeps : Now Item → Bool
  pub answer : Value → Bool
  pub thrown : Value → Bool
  pub reached : ℕ → Bool
  pub so : Integers → List ℕ → Bool
  pub fit : Integers → Made → Bool
  pub fits : Integers → Indices → Sized → Bool
  pub reads : Integers → Reading → Sized → Bool
  pub kept : IsKept types past own (λ g made. fit g made ≡ true) (λ g i s. fits g i s ≡ true) (λ g r s. reads g r s ≡ true)

module _ {types : Types} {past : Positive} {own : List Closed} (t : Tests types past own) where
  abbrev pub ends_of : Ends (λ g made. t.fit g made ≡ true)
  ends_of = record {
    keeps = λ now. t.keeps now ≡ true;
    answer = λ v. t.answer v ≡ true;
    thrown = λ v. t.thrown v ≡ true;
    reached = t.reached;
    so = λ g vs. t.so g vs ≡ true;
  }

  abbrev pub typing_of : Typing types past own (λ g made. t.fit g made ≡ true)
  typing_of = record { fits = λ g i s. t.fits g i s ≡ true; reads = λ g r s. t.reads g r s ≡ true; kept = t.kept }

-- ---- the laws, whatever these tests are

abbrev pub PatternsAreSound : Type 0
PatternsAreSound = (around : Around) (past : Positive) (own : List Closed) (t : Tests around.types past own)
    → PatternIsSound around past own (typing_of t) (ends_of t)

abbrev pub ArmsAreSound : Type 0
ArmsAreSound = (around : Around) (past : Positive) (own : List Closed) (t : Tests around.types past own)
    → ArmIsSound around past own (typing_of t) (ends_of t)

abbrev pub LetsAreSound : Type 0
LetsAreSound = (around : Around) (past : Positive) (own : List Closed) (t : Tests around.types past own)
    → LetIsSound around past own (typing_of t) (ends_of t)
