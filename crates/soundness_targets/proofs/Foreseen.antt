-- What is owed of a value behind what notes that it is made: it is so before too.
use Rattle.std.proofs.Common.{◌≡◌, ℕ, List, [], ◌∷◌, ◌++◌, map, refl, sym, ap, ◌∙◌, subst}
use Rattle.sail_base.specs.declared.place.Place.{Place}
use Rattle.sail_types.specs.Belongs.{belongs}
use Rattle.sail_types.specs.declared.values.Value.{Value}
use Rattle.value_indices.specs.declared.indices.Indices.{Indices}
use Rattle.value_indices.specs.declared.indices.Reading.{Reading}
use Rattle.value_indices.specs.declared.notes.Fact.{Fact}
use Rattle.value_indices.specs.declared.notes.Fact.TheVariants as Y
use Rattle.value_indices.specs.Steps.{Conditions, Walk, bind, conditions, goals_under}
use Rattle.value_fits.specs.Fitting.{fits, owe_fit, owe_made}
use Rattle.value_fits.specs.declared.fitted.Fitted.{Fitted}
use Rattle.sail_core.specs.Run.{Run}
use Rattle.checked_meaning.specs.Checked.{Noted}
use Rattle.checked_meaning.specs.Items.{Item}
use Rattle.value_laws.specs.Belonging.{standing}
use Rattle.value_laws.specs.Known.{AllTrue, Point}
use Rattle.value_laws.proofs.Steps.{same}
use Rattle.soundness_steps.proofs.Points.{agree_on}
use Rattle.soundness_steps.specs.Works.{Scene}
use Rattle.soundness_steps.specs.Noted.{with_given}
use Rattle.soundness_steps.specs.Steps.{AllMet, Beside, Reach, Stands, Walks}
use Rattle.soundness_steps.specs.Values.{Belongs, Has, IsWanted}
use Rattle.soundness_steps.proofs.Steps.{met_behind}
use Rattle.soundness_forms.specs.Forms.{FitsSuffice}

-- ---- what the notes behind a walk say may be taken before it

pub foresees : {q : Scene} {n : ℕ} {f : Point n} {facts : List Fact} {A B C : Type 0} {P : Type 0} (w : Walk A) (k : A → Walk C) {c : Run Item B}
    {Holds : (m : ℕ) → Point m → C → B → Type 0}
    → ((noted : Noted) → Stands q.set q.work noted f facts → AllMet q (k (w facts n).value (w facts n).facts (w facts n).next).notes → P)
    → (P → Beside q n f facts (bind w k) c Holds) → Beside q n f facts (bind w k) c Holds
unfolding bind
foresees {q} {n} {f} {facts} w k see next = record {
  run = λ now stands met ok.
      (next (see now.opened stands
      (met_behind q (w facts n).notes (k (w facts n).value (w facts n).facts (w facts n).next).notes met))).run now stands met ok;
}

-- ---- numbers that are given say nothing of what is true

given_none : (vs : List ℕ) (gs : List Fact) → conditions (map Y.IsGiven vs ++ gs) ≡ conditions gs
given_none [] gs = refl
given_none (v ∷ vs) gs = given_none vs gs

pub conditions_given : (fs : List Fact) (vs : List ℕ) (gs : List Fact) → conditions (with_given fs vs ++ gs) ≡ conditions (fs ++ gs)
conditions_given [] vs gs = given_none vs gs
conditions_given (Y.Holds c ∷ fs) vs gs = ap (λ cs. c ∷ cs) (conditions_given fs vs gs)
conditions_given (Y.IsGiven v ∷ fs) vs gs = conditions_given fs vs gs

goals_alike : (q : Scene) (fs gs : List Fact) (place : Place) (cs : Conditions) → conditions gs ≡ conditions fs → AllMet q (goals_under fs place cs)
    → AllMet q (goals_under gs place cs)
goals_alike q fs gs place [] e met = tt
goals_alike q fs gs place (c ∷ cs) e met = ((λ g t. met.0 g (subst (AllTrue (standing q.set.past g)) e t)), tt)

-- that a value fits a type is owed with such numbers in force: it belongs before
pub fits_before : FitsSuffice → (q : Scene) {n : ℕ} (f : Point n) (facts : List Fact) (place : Place) (i : Indices) (r : Reading) (v : Value) (vs : List ℕ)
    → Has q.set q.work f i v → IsWanted q.set q.work f r → (noted : Noted) → Stands q.set q.work noted f facts
    → AllMet q (owe_fit place (fits q.set.around.types i r) (with_given facts vs) n).notes → Belongs q.set q.work f r v
unfolding owe_fit owe_made
fits_before fit q {n} f facts place i r v vs has wanted noted stands met =
    let made = fits q.set.around.types i r n in
    let reached = (fit q n f facts place i r v has wanted).go noted stands
    (goals_alike q (with_given facts vs ++ made.facts) (facts ++ made.facts) place made.conditions (sym (conditions_given facts vs made.facts)) met) in
    λ g a. ap (belongs q.set.around.types v)
    (wanted.0 g a ∙ sym (wanted.0 reached.point.integers (agree_on reached.later (same reached.point))))
    ∙ reached.holds reached.point.integers (same reached.point)

-- what is owed where more numbers are given, as before
pub owed_before : (q : Scene) {n : ℕ} (f : Point n) (facts later : List Fact) (place : Place) (made : ℕ → Fitted) {Holds : (m : ℕ) → Point m → Type 0}
    → ((more : List Fact) → conditions (later ++ more) ≡ conditions (facts ++ more)) → Walks q n f facts (owe_fit place made) (λ m g t. Holds m g)
    → (noted : Noted) → Stands q.set q.work noted f facts → AllMet q (owe_fit place made later n).notes
    → Reach q.set q.work noted f (made n).next (facts ++ (made n).facts) (λ p. Holds (made n).next p)
unfolding owe_fit owe_made
owed_before q {n} f facts later place made same_conditions walks noted stands met =
    walks.go noted stands
    (goals_alike q (later ++ (made n).facts) (facts ++ (made n).facts) place (made n).conditions (sym (same_conditions (made n).facts)) met)
