-- Pieces of runs put together otherwise than their walks.
use Rattle.std.proofs.Common.{◌≡◌, ℕ, Bool, false, List, refl, sym, ap, ◌∙◌, subst}
use Rattle.std.proofs.lemmas.List.{append_assoc}
use Rattle.sail_base.specs.declared.place.Place.{Place}
use Rattle.sail_types.specs.declared.numbers.Con.{Con}
use Rattle.sail_types.specs.declared.numbers.Num.{Num}
use Rattle.sail_types.specs.declared.table.Types.{Types}
use Rattle.sail_core.specs.Run as R
use Rattle.sail_core.specs.Run.{Now, Ended, Run, goes_on, leaving, ◌then◌}
use Rattle.size_values.specs.declared.sized.Sized.{Sized}
use Rattle.size_values.specs.declared.sized.Sized.TheVariants as S
use Rattle.size_values.specs.Sized.{form_reading_sized, indices_sized}
use Rattle.value_indices.specs.declared.indices.Indices.{Indices}
use Rattle.value_indices.specs.declared.indices.Indices.TheFolds.{fold-roll-Indices}
use Rattle.value_indices.specs.declared.indices.Indices.TheOpen as W
use Rattle.value_indices.specs.declared.indices.Indices.TheVariants as I
use Rattle.value_indices.specs.declared.notes.Fact.{Fact}
use Rattle.value_indices.specs.Steps.{Walk, bind, give}
use Rattle.call_arguments.specs.declared.aims.Aim.{Aim}
use Rattle.call_notes.specs.Ends.{settled}
use Rattle.value_laws.specs.Belonging.{Integers}
use Rattle.value_laws.specs.Known.{Point}
use Rattle.checked_meaning.specs.Items.{Item}
use Rattle.soundness_steps.specs.Points.{Later}
use Rattle.soundness_steps.specs.Works.{Scene, here}
use Rattle.soundness_steps.specs.Noted.{known, sized}
use Rattle.soundness_steps.specs.Steps.{AllMet, Beside, no_walk}
use Rattle.soundness_steps.specs.Values.{AimSteady, Comes, Is}
use Rattle.soundness_steps.proofs.Steps.{given_back, well_then}
use Rattle.soundness_forms.specs.Forms.{FitsSuffice}
use Rattle.soundness_forms.proofs.Basics.{aim_on, settles, then_walks}

-- ---- the types of truths and integers

pub truth_sized : (types : Types) (own : List Sized) (g : Integers) (c : Con) → sized types own g (I.Truth c) ≡ S.Bool
truth_sized types own g c = ap (sized types own g) (sym (I.rolls-Truth c))
    ∙ fold-roll-Indices Sized Sized (indices_sized types own (known g)) (form_reading_sized types own (known g)) (W.Truth c)

pub integer_sized : (types : Types) (own : List Sized) (g : Integers) (t : Num) → sized types own g (I.Integer t) ≡ S.Int
integer_sized types own g t = ap (sized types own g) (sym (I.rolls-Integer t))
    ∙ fold-roll-Indices Sized Sized (indices_sized types own (known g)) (form_reading_sized types own (known g)) (W.Integer t)

-- ---- walks and runs

-- a walk, then two others one behind the other
pub walk_regrouped : {q : Scene} {n : ℕ} {f : Point n} {facts : List Fact} {A B C D : Type 0} (w : Walk A) (k : A → Walk B) (l : B → Walk C) {c : Run Item D}
    {Holds : (m : ℕ) → Point m → C → D → Type 0} → Beside q n f facts (bind w (λ a. bind (k a) l)) c Holds → Beside q n f facts (bind (bind w k) l) c Holds
unfolding bind
walk_regrouped {q} {n} {f} {facts} w k l b = record {
  run = λ now stands met ok.
      let first = w facts n in
      let second = k first.value first.facts first.next in
      let third = l second.value second.facts second.next in
      b.run now stands (subst (AllMet q) (append_assoc first.notes second.notes third.notes) met) ok;
}

-- a run beside no walk behind a piece
pub then_runs : {q : Scene} {n : ℕ} {f : Point n} {facts : List Fact} {A B D : Type 0} {w : Walk A} {c : Run Item B} (d : B → Run Item D)
    {Holds : (m : ℕ) → Point m → A → B → Type 0} {Then : (m : ℕ) → Point m → A → D → Type 0} → Beside q n f facts w c Holds
    → ((m : ℕ) (g : Point m) (fs : List Fact) (a : A) (x : B) → Later f g → Holds m g a x → Beside q m g fs no_walk (d x) (λ j p t y. Then j p a y))
    → Beside q n f facts w (c then d) Then
unfolding give
then_runs {q} {n} {f} {facts} {w} d b next = record {
  run = λ now stands met ok.
      well_then d (b.run now stands met ok) (λ x after g l s h ok2.
      (next (w facts n).next g (w facts n).facts (w facts n).value x l h).run after s tt ok2);
}

-- a piece that changes nothing, ends with what one that is left ends with
pub leaves_then : {A B : Type 0} (change : Now Item → Now Item) (e : Ended Item A) (d : A → Run Item B)
    → ((x : A) (now : Now Item) → leaving change (d x now) ≡ d x (change now)) → leaving change (goes_on e d) ≡ goes_on (leaving change e) d
leaves_then change (R.Gives x now) d h = h x now
leaves_then change (R.No now) d h = refl
leaves_then change (R.Returns v now) d h = refl
leaves_then change (R.Throws v now) d h = refl
leaves_then change (R.Stops cause now) d h = refl
leaves_then change R.Stuck d h = refl

-- a node that makes no value of its own, and is settled
pub settled_so : FitsSuffice → {q : Scene} {n : ℕ} {f : Point n} {facts : List Fact} (place : Place) (aim : Aim) {w : Walk Indices} {c : Run Item Item}
    → AimSteady q.set q.work f aim → Beside q n f facts w c (λ m p i x. Is q.set q.work p i x)
    → Beside q n f facts (bind (bind w (settled (here q) place aim)) (λ i. give i)) c (λ m g i x. Comes q.set q.work g false false false aim i x)
settled_so fit {q} place aim st h = then_walks (λ i. give i) (then_walks (settled (here q) place aim) h (λ m g fs i x l e.
    settles fit place aim i x (aim_on q.set q.work aim l st) e)) (λ m g fs i x l e. given_back i e)
