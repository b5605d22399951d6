-- An index: its part beside its run, and the integer that the run tests.
use Rattle.std.proofs.Common.{◌≡◌, ℕ, ℤ, false, List, [], ◌∷◌, Option, Some, None, refl, sym, ap, ◌∙◌, subst}
use Rattle.sail_base.specs.declared.place.Place.{Place}
use Rattle.sail_types.specs.Numbers.{number}
use Rattle.sail_types.specs.declared.numbers.Num.{Num}
use Rattle.sail_core.specs.Making.{World, integer}
use Rattle.sail_core.specs.Run as Runs
use Rattle.sail_core.specs.Run.{Ended, Run, gives, goes_on, ◌then◌}
use Rattle.value_indices.specs.declared.indices.Indices.{Indices, out-Indices, roll-Indices}
use Rattle.value_indices.specs.declared.indices.Indices.TheOpen as W
use Rattle.value_indices.specs.declared.indices.Indices.TheOpen.{Indices-F}
use Rattle.value_indices.specs.declared.indices.Indices.TheVariants as I
use Rattle.value_indices.specs.declared.indices.Indices.TheViews.{roll-out-Indices}
use Rattle.value_indices.specs.declared.indices.Reading.{Reading}
use Rattle.value_indices.specs.declared.notes.Fact.{Fact}
use Rattle.value_indices.specs.Steps.{Walk, give}
use Rattle.pattern_leaves.specs.Settings.{Scope}
use Rattle.call_arguments.specs.declared.aims.Aim.TheVariants as Aims
use Rattle.call_notes.specs.Ends.{integer_number, number_form}
use Rattle.expression_steps.specs.Parts.{Part, number_before, number_walk, numbers_behind, numbers_walk}
use Rattle.checked_meaning.specs.Items.{Item}
use Rattle.value_laws.specs.Belonging.{Integers, standing}
use Rattle.value_laws.specs.Known.{Point, Agree}
use Rattle.soundness_steps.specs.Points.{Later}
use Rattle.soundness_steps.proofs.Points.{agree_on}
use Rattle.soundness_steps.specs.Works.{Scene, here}
use Rattle.soundness_steps.specs.Steps.{Beside, Walks, EndsWell, well_given, well_no, well_returned, well_stopped, well_thrown}
use Rattle.soundness_steps.specs.Values.{Is}
use Rattle.soundness_steps.proofs.Steps.{binds, given_back, rests, runs_as, walks_on}
use Rattle.soundness_forms.specs.Forms.{Fine}
use Rattle.soundness_forms.specs.Worlds.{Surrounds}
use Rattle.soundness_forms.proofs.Basics.{is_on, then_walks, wrong_alone}
use Rattle.soundness_forms.proofs.Casts.{comes_is, no_guard}
use Rattle.soundness_forms.proofs.Tests.{integer_tested, never_value}
use Rattle.soundness_parts.proofs.Taken.{z}

-- ---- what a run gives, with something made of it

maps_well : {q : Scene} {n : ℕ} {f : Point n} {m : ℕ} {fs : List Fact} {A B : Type 0} {Holds : Point m → A → Type 0} {Then : Point m → B → Type 0}
    (h : A → B) {e : Ended Item A} → ((p : Point m) (x : A) → Holds p x → Then p (h x)) → EndsWell q f m fs Holds e
    → EndsWell q f m fs Then (goes_on e (λ x. gives (h x)))
maps_well h say (well_given x now r ok) =
    well_given (h x) now (record { point = r.point; later = r.later; stands = r.stands; holds = say r.point x r.holds }) ok
maps_well h say (well_no now b ok) = well_no now b ok
maps_well h say (well_returned v now b ok) = well_returned v now b ok
maps_well h say (well_thrown v now b ok) = well_thrown v now b ok
maps_well h say (well_stopped cause now) = well_stopped cause now

pub maps : {q : Scene} {n : ℕ} {f : Point n} {facts : List Fact} {A B C : Type 0} {w : Walk A} {c : Run Item B} (h : B → C)
    {Holds : (m : ℕ) → Point m → A → B → Type 0} {Then : (m : ℕ) → Point m → A → C → Type 0}
    → ((m : ℕ) (g : Point m) (a : A) (x : B) → Holds m g a x → Then m g a (h x)) → Beside q n f facts w c Holds
    → Beside q n f facts w (c then λ x. gives (h x)) Then
maps {n} {facts} {w} h say b = record {
  run = λ now stands met ok.
      maps_well h (λ p x k. say (w facts n).next p (w facts n).value x k) (b.run now stands met ok);
}

-- ---- pairs of a value and its integer

abbrev pub pair : Item → ℤ → Item × ℤ
pair y i = (y, i)

one_paired : {B : Type 0} (y : Item) (e : Ended Item ℤ) (k : Item → ℤ → Run Item B)
    → goes_on (goes_on e (λ i. gives (pair y i))) (λ r. k r.0 r.1) ≡ goes_on e (k y)
one_paired y (Runs.Gives i now) k = refl
one_paired y (Runs.No now) k = refl
one_paired y (Runs.Returns v now) k = refl
one_paired y (Runs.Throws v now) k = refl
one_paired y (Runs.Stops cause now) k = refl
one_paired y Runs.Stuck k = refl

pub paired : {B : Type 0} (e : Ended Item Item) (c : Item → Run Item ℤ) (k : Item → ℤ → Run Item B)
    → goes_on (goes_on e (λ y. c y then λ i. gives (pair y i))) (λ r. k r.0 r.1) ≡ goes_on e (λ y. c y then k y)
paired (Runs.Gives y now) c k = one_paired y (c y now) k
paired (Runs.No now) c k = refl
paired (Runs.Returns v now) c k = refl
paired (Runs.Throws v now) c k = refl
paired (Runs.Stops cause now) c k = refl
paired Runs.Stuck c k = refl

-- ---- indexes

module _ (q : Scene) {n : ℕ} (f : Point n) where
  -- an integer of this number
  pub record Counts (t : Num) (y : Item) (i : ℤ) : Type 0 where
    pub is_integer : Is q.set q.work f (I.Integer t) y
    pub same : (g : Integers) → Agree f g → number (standing q.set.past g) t ≡ i

  abbrev pub IsIndex : Option Num → Item → ℤ → Type 0
  IsIndex None y i = ⊥
  IsIndex (Some t) y i = Counts t y i

  abbrev pub OneIndex : Option (List Num) → Item → ℤ → Type 0
  OneIndex (Some (t ∷ [])) y i = Counts t y i
  OneIndex o y i = ⊥

pub counts_on : {q : Scene} {n m : ℕ} {f : Point n} {g : Point m} {t : Num} {y : Item} {i : ℤ} → Later f g → Counts q f t y i → Counts q g t y i
counts_on l h = record { is_integer = is_on l h.is_integer; same = λ k a. h.same k (agree_on l a) }

module _ {q : Scene} {n : ℕ} {f : Point n} {facts : List Fact} where
  index_by : (place : Place) (i : Indices) (y : Item) → Is q.set q.work f i y → (w : Indices-F Indices Reading) → out-Indices i ≡ w
      → Beside q n f facts (number_form place w) (integer (z q) y) (λ m p o k. IsIndex q p o y k)
  index_by place i y h (W.Integer t) e =
      let is : i ≡ I.Integer t = sym (roll-out-Indices i) ∙ ap roll-Indices e ∙ I.rolls-Integer t in
      let k = integer_tested q i y h t is in
      runs_as k.1 (rests k.0 (given_back (Some t) (record { is_integer = subst (λ j. Is q.set q.work f j y) is h; same = k.2.1 })))
  index_by place i y h W.Never e = absurd (never_value q i y h e)
  index_by place i y h W.Unit e = wrong_alone place _
  index_by place i y h W.Bit e = wrong_alone place _
  index_by place i y h (W.Bits t) e = wrong_alone place _
  index_by place i y h (W.Truth c) e = wrong_alone place _
  index_by place i y h W.String e = wrong_alone place _
  index_by place i y h (W.List r) e = wrong_alone place _
  index_by place i y h (W.Vector t r) e = wrong_alone place _
  index_by place i y h (W.Tuple is) e = wrong_alone place _
  index_by place i y h (W.Named u is rs) e = wrong_alone place _
  index_by place i y h (W.Variable j) e = wrong_alone place _

  pub index_fine : (place : Place) (i : Indices) (y : Item) → Is q.set q.work f i y
      → Beside q n f facts (integer_number place i) (integer (z q) y) (λ m p o k. IsIndex q p o y k)
  index_fine place i y h = index_by place i y h (out-Indices i) refl

module _ (q : Scene) (w : World Item) (p : Part) (a : Run Item Item) (fine : Fine q w false false p a) where
  -- the part, and what it counts
  abbrev pub counted : Run Item (Item × ℤ)
  counted = a then λ y. integer (z q) y then λ i. gives (pair y i)

  pub number_runs : {n : ℕ} {f : Point n} {facts : List Fact} (scope : Scope) → Surrounds q w f scope
      → Beside q n f facts (number_walk p (here q) scope) counted (λ m g o r. IsIndex q g o r.0 r.1)
  number_runs {n} {f} {facts} scope there =
      binds (integer_number p.place) (λ y. integer (z q) y then λ i. gives (pair y i))
      (fine.walks q.names q.may_fall no_guard n f facts scope Aims.Free there tt) (λ m g fs i y l c.
      maps (λ k. pair y k) (λ m2 g2 o k h. h) (index_fine p.place i y (comes_is p.is_nested p.never_ends Aims.Free i y c)))

  -- one index alone
  pub one_index : {n : ℕ} {f : Point n} {facts : List Fact} (scope : Scope) → Surrounds q w f scope
      → Beside q n f facts (numbers_walk (p ∷ []) (here q) scope) counted (λ m g o r. OneIndex q g o r.0 r.1)
  one_index scope there = then_walks (numbers_behind (give (Some []))) (number_runs scope there) (λ m g fs o r l h. by m g fs o r h)
    where
      by : (m : ℕ) (g : Point m) (fs : List Fact) (o : Option Num) (r : Item × ℤ) → IsIndex q g o r.0 r.1
          → Walks q m g fs (numbers_behind (give (Some [])) o) (λ j d b. OneIndex q d b r.0 r.1)
      by m g fs None r h = absurd h
      by m g fs (Some t) r h = walks_on (number_before t) (given_back (Some []) refl) (λ j d gs b l e. behind j d gs b l e)
        where
          behind : (j : ℕ) (d : Point j) (gs : List Fact) (b : Option (List Num)) → Later g d → b ≡ Some []
              → Walks q j d gs (number_before t b) (λ x d2 c. OneIndex q d2 c r.0 r.1)
          behind j d gs b l e = subst (λ c. Walks q j d gs (number_before t c) (λ x d2 u. OneIndex q d2 u r.0 r.1)) (sym e)
              (given_back (Some (t ∷ [])) (counts_on l h))
