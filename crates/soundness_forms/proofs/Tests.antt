-- Truths and integers, as a run tests them.
use Rattle.std.proofs.Common.{◌≡◌, ℕ, ℤ, Bool, true, false, List, Option, Some, None, refl, sym, ap, ◌∙◌}
use Rattle.std.specs.Bool.{beq}
use Rattle.std.specs.Ordering.{int_eq}
use Rattle.std.proofs.lemmas.Bool.{and_parts}
use Rattle.std.proofs.lemmas.Bool.Decides.{Decides-int_eq}
use Rattle.sail_base.specs.declared.place.Place.{Place}
use Rattle.sail_types.specs.Limits.{is_small}
use Rattle.sail_types.specs.Numbers.{number, true_in}
use Rattle.sail_types.specs.declared.numbers.Con.{Con}
use Rattle.sail_types.specs.declared.numbers.Num.{Num}
use Rattle.sail_types.specs.declared.table.Types.{Types}
use Rattle.sail_types.specs.declared.values.Value.{Value, Value-F, out-Value}
use Rattle.sail_types.specs.declared.values.Value.TheOpen as V
use Rattle.sail_core.specs.Making.{integer, truth}
use Rattle.sail_core.specs.Run as R
use Rattle.sail_core.specs.Run.{Now, needs}
use Rattle.sail_core.specs.Values.{form_integer, form_truth}
use Rattle.size_values.specs.declared.sized.Sized.{Sized}
use Rattle.size_values.specs.declared.sized.Sized.TheVariants as S
use Rattle.size_values.specs.Sized.{form_reading_sized, indices_sized}
use Rattle.value_indices.specs.declared.indices.Indices.{Indices, out-Indices, roll-Indices}
use Rattle.value_indices.specs.declared.indices.Indices.TheFolds.{fold-roll-Indices}
use Rattle.value_indices.specs.declared.indices.Indices.TheOpen as W
use Rattle.value_indices.specs.declared.indices.Indices.TheOpen.{Indices-F}
use Rattle.value_indices.specs.declared.indices.Indices.TheVariants as I
use Rattle.value_indices.specs.declared.indices.Indices.TheViews.{roll-out-Indices}
use Rattle.value_indices.specs.declared.indices.Reading.{Reading}
use Rattle.value_indices.specs.declared.notes.Fact.{Fact}
use Rattle.call_notes.specs.Ends.{number_form, integer_number}
use Rattle.expression_forms.specs.Truths.{truth_form, truth_of}
use Rattle.checked_meaning.specs.Items.{Item}
use Rattle.checked_meaning.specs.Checked.{checked}
use Rattle.value_laws.specs.Belonging.{Integers, form_holds, standing}
use Rattle.value_laws.specs.Known.{Point, Agree}
use Rattle.value_laws.proofs.Basics.{no}
use Rattle.value_laws.proofs.Steps.{same}
use Rattle.value_laws.proofs.Values.{has_form}
use Rattle.soundness_steps.specs.Works.{Scene}
use Rattle.soundness_steps.specs.Noted.{known, sized}
use Rattle.soundness_steps.specs.Steps.{Beside}
use Rattle.soundness_steps.specs.Values.{Is}
use Rattle.soundness_steps.proofs.Steps.{given_back, rests, runs_as}
use Rattle.soundness_forms.proofs.Basics.{has_there, wrong_alone}

-- ---- the types of truths and integers

pub truth_sized : (types : Types) (own : List Sized) (g : Integers) (c : Con) → sized types own g (I.Truth c) ≡ S.Bool
truth_sized types own g c = ap (sized types own g) (sym (I.rolls-Truth c))
    ∙ fold-roll-Indices Sized Sized (indices_sized types own (known g)) (form_reading_sized types own (known g)) (W.Truth c)

pub integer_sized : (types : Types) (own : List Sized) (g : Integers) (t : Num) → sized types own g (I.Integer t) ≡ S.Int
integer_sized types own g t = ap (sized types own g) (sym (I.rolls-Integer t))
    ∙ fold-roll-Indices Sized Sized (indices_sized types own (known g)) (form_reading_sized types own (known g)) (W.Integer t)

-- ---- truths

beq_same : (b c : Bool) → beq b c ≡ true → c ≡ b
beq_same true true h = refl
beq_same false false h = refl
beq_same true false h = no h
beq_same false true h = no h

module _ (q : Scene) {n : ℕ} (f : Point n) where
  -- what a condition says there, wherever it is one
  abbrev pub TruthIs : Option Con → Bool → Type 0
  TruthIs None b = ⊥
  TruthIs (Some c) b = (g : Integers) → Agree f g → true_in (standing q.set.past g) c ≡ b

  abbrev pub NumberIs : Option Num → ℤ → Type 0
  NumberIs None z = ⊥
  NumberIs (Some t) z = (is_small z ≡ true) × ((g : Integers) → Agree f g → number (standing q.set.past g) t ≡ z)

module _ (q : Scene) {n : ℕ} {f : Point n} where
  pub never_value : (i : Indices) (x : Item) → Is q.set q.work f i x → out-Indices i ≡ W.Never → ⊥
  never_value i x h e = no (sym (has_form q.set.around.types (standing q.set.past f.integers) q.work.types i W.Never x.val
      (ap roll-Indices (sym e) ∙ roll-out-Indices i)) ∙ has_there h.has f.integers (same f))

  truth_in_form : (c : Con) (w : Value-F Value)
      → ((g : Integers) → Agree f g → form_holds q.set.around.types (standing q.set.past g) q.work.types (W.Truth c) w ≡ true)
      → (b : Bool) × (form_truth w ≡ Some b) × ((g : Integers) → Agree f g → true_in (standing q.set.past g) c ≡ b)
  truth_in_form c (V.Truth b) h = (b, refl, λ g a. beq_same b (true_in (standing q.set.past g) c) (h g a))
  truth_in_form c w h = no (h f.integers (same f))

  pub truth_tested : (i : Indices) (x : Item) → Is q.set q.work f i x → (c : Con) → i ≡ I.Truth c
      → (b : Bool) × ((now : Now Item) → R.Gives b now ≡ truth (checked q.set.around.types q.cases) x now)
      × ((g : Integers) → Agree f g → true_in (standing q.set.past g) c ≡ b)
  truth_tested i x h c e =
      let types = q.set.around.types in
      let found = truth_in_form c (out-Value x.val) (λ g a.
      sym (has_form types (standing q.set.past g) q.work.types i (W.Truth c) x.val (I.rolls-Truth c ∙ sym e)) ∙ has_there h.has g a) in
      (found.0, (λ now. sym (ap (λ o. needs o now) found.1)), found.2)

  truth_by : {facts : List Fact} (place : Place) (i : Indices) (x : Item) → Is q.set q.work f i x → (y : Indices-F Indices Reading) → out-Indices i ≡ y
      → Beside q n f facts (truth_form place y) (truth (checked q.set.around.types q.cases) x) (λ m p o b. TruthIs q p o b)
  truth_by place i x h (W.Truth c) e =
      let t = truth_tested i x h c (sym (roll-out-Indices i) ∙ ap roll-Indices e ∙ I.rolls-Truth c) in
      runs_as t.1 (rests t.0 (given_back (Some c) t.2))
  truth_by place i x h W.Never e = absurd (never_value i x h e)
  truth_by place i x h W.Unit e = wrong_alone place _
  truth_by place i x h W.Bit e = wrong_alone place _
  truth_by place i x h (W.Bits t) e = wrong_alone place _
  truth_by place i x h (W.Integer t) e = wrong_alone place _
  truth_by place i x h W.String e = wrong_alone place _
  truth_by place i x h (W.List r) e = wrong_alone place _
  truth_by place i x h (W.Vector t r) e = wrong_alone place _
  truth_by place i x h (W.Tuple is) e = wrong_alone place _
  truth_by place i x h (W.Named u is rs) e = wrong_alone place _
  truth_by place i x h (W.Variable j) e = wrong_alone place _

  pub truths : {facts : List Fact} (place : Place) (i : Indices) (x : Item) → Is q.set q.work f i x
      → Beside q n f facts (truth_of place i) (truth (checked q.set.around.types q.cases) x) (λ m p o b. TruthIs q p o b)
  truths place i x h = truth_by place i x h (out-Indices i) refl

  -- ---- integers

  integer_in_form : (t : Num) (w : Value-F Value)
      → ((g : Integers) → Agree f g → form_holds q.set.around.types (standing q.set.past g) q.work.types (W.Integer t) w ≡ true)
      → (z : ℤ) × (form_integer w ≡ Some z) × (is_small z ≡ true) × ((g : Integers) → Agree f g → number (standing q.set.past g) t ≡ z)
  integer_in_form t (V.Integer z) h = (
    z,
    refl,
    (and_parts (int_eq z (number (standing q.set.past f.integers) t)) (is_small z) (h f.integers (same f))).1,
    λ g a. sym ((Decides-int_eq z (number (standing q.set.past g) t)).0 (and_parts (int_eq z (number (standing q.set.past g) t)) (is_small z) (h g a)).0),
  )
  integer_in_form t w h = no (h f.integers (same f))

  pub integer_tested : (i : Indices) (x : Item) → Is q.set q.work f i x → (t : Num) → i ≡ I.Integer t
      → (z : ℤ) × ((now : Now Item) → R.Gives z now ≡ integer (checked q.set.around.types q.cases) x now) × NumberIs q f (Some t) z
  integer_tested i x h t e =
      let types = q.set.around.types in
      let found = integer_in_form t (out-Value x.val) (λ g a.
      sym (has_form types (standing q.set.past g) q.work.types i (W.Integer t) x.val (I.rolls-Integer t ∙ sym e)) ∙ has_there h.has g a) in
      (found.0, (λ now. sym (ap (λ o. needs o now) found.1)), (found.2, found.3))

  integer_by : {facts : List Fact} (place : Place) (i : Indices) (x : Item) → Is q.set q.work f i x → (y : Indices-F Indices Reading) → out-Indices i ≡ y
      → Beside q n f facts (number_form place y) (integer (checked q.set.around.types q.cases) x) (λ m p o z. NumberIs q p o z)
  integer_by place i x h (W.Integer t) e =
      let k = integer_tested i x h t (sym (roll-out-Indices i) ∙ ap roll-Indices e ∙ I.rolls-Integer t) in
      runs_as k.1 (rests k.0 (given_back (Some t) k.2))
  integer_by place i x h W.Never e = absurd (never_value i x h e)
  integer_by place i x h W.Unit e = wrong_alone place _
  integer_by place i x h W.Bit e = wrong_alone place _
  integer_by place i x h (W.Bits t) e = wrong_alone place _
  integer_by place i x h (W.Truth c) e = wrong_alone place _
  integer_by place i x h W.String e = wrong_alone place _
  integer_by place i x h (W.List r) e = wrong_alone place _
  integer_by place i x h (W.Vector t r) e = wrong_alone place _
  integer_by place i x h (W.Tuple is) e = wrong_alone place _
  integer_by place i x h (W.Named u is rs) e = wrong_alone place _
  integer_by place i x h (W.Variable j) e = wrong_alone place _

  pub integers : {facts : List Fact} (place : Place) (i : Indices) (x : Item) → Is q.set q.work f i x
      → Beside q n f facts (integer_number place i) (integer (checked q.set.around.types q.cases) x) (λ m p o z. NumberIs q p o z)
  integers place i x h = integer_by place i x h (out-Indices i) refl
