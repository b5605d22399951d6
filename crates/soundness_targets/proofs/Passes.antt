-- What a run reads later is foreseen: a run ends as it does, and what it reads then may be taken to be known from its beginning.
use Rattle.std.proofs.Common.{◌≡◌, ℕ, List, refl, subst}
use Rattle.sail_core.specs.Run as R
use Rattle.sail_core.specs.Run.{Ended, Now, Run, goes_on, ◌then◌}
use Rattle.value_indices.specs.declared.notes.Fact.{Fact}
use Rattle.value_indices.specs.Steps.{Walk, bind}
use Rattle.checked_meaning.specs.Items.{Item}
use Rattle.value_laws.specs.Known.{Point}
use Rattle.soundness_steps.specs.Points.{Later}
use Rattle.soundness_steps.specs.Works.{Scene}
use Rattle.soundness_steps.specs.States.{Sound}
use Rattle.soundness_steps.specs.Steps.{AllMet, Beside, EndsWell, Reach, Stands, well_given, well_no, well_returned, well_stopped, well_thrown}
use Rattle.soundness_steps.proofs.Steps.{met_behind, met_front, well_on}

-- how a piece that gave something did
abbrev pub Gave : (q : Scene) {n : ℕ} (f : Point n) (m : ℕ) (facts : List Fact) {B : Type 0} → (Point m → B → Type 0) → Ended Item B → Type 0
Gave q f m facts Holds (R.Gives x now) = Reach q.set q.work now.opened f m facts (λ p. Holds p x) × Sound q now
Gave q f m facts Holds e = Unit {0}

pub gave : {q : Scene} {n : ℕ} {f : Point n} {m : ℕ} {facts : List Fact} {B : Type 0} {Holds : Point m → B → Type 0} {e : Ended Item B}
    → EndsWell q f m facts Holds e → Gave q f m facts Holds e
gave (well_given x now r h) = (r, h)
gave (well_no now a h) = tt
gave (well_returned v now b h) = tt
gave (well_thrown v now b h) = tt
gave (well_stopped cause now) = tt

-- what comes behind a walk and its run, where what is read there is what was foreseen
abbrev pub GoesOn : (q : Scene) (n : ℕ) (f : Point n) (facts : List Fact) {A B C D : Type 0} → Walk A → (A → Walk C) → (B → Run Item D) → (Now Item → Type 0)
    → ((m : ℕ) → Point m → A → B → Type 0) → ((m : ℕ) → Point m → C → D → Type 0) → Type 0
GoesOn q n f facts {B = B} w k d Current Holds Then =
    let m = (w facts n).next in
    let rest = k (w facts n).value (w facts n).facts m in
    (g : Point m) (x : B) → Later f g → Holds m g (w facts n).value x → (now : Now Item) → Current now → Stands q.set q.work now.opened g (w facts n).facts
    → AllMet q rest.notes → Sound q now → EndsWell q g rest.next rest.facts (λ p y. Then rest.next p rest.value y) (d x now)

module _ {q : Scene} {n : ℕ} {f : Point n} {facts : List Fact} {A B C D V : Type 0} {w : Walk A} (k : A → Walk C) {c : Run Item B} (d : B → Run Item D)
    (Ok : V → Type 0) (Current : V → Now Item → Type 0) (Holds : V → (m : ℕ) → Point m → A → B → Type 0) (Then : (m : ℕ) → Point m → C → D → Type 0)
    (first : (now : Now Item) → Sound q now → (v : V) × Ok v × Current v now) (runs : (v : V) → Ok v → Beside q n f facts w c (Holds v))
    (next : (v : V) → Ok v → GoesOn q n f facts w k d (Current v) (Holds v) Then) where
  second : (now : Now Item) → Stands q.set q.work now.opened f facts → AllMet q (bind w k facts n).notes → Sound q now → (v : V) → Ok v
      → {e : Ended Item B} → c now ≡ e → EndsWell q f (w facts n).next (w facts n).facts (λ p x. Holds v (w facts n).next p (w facts n).value x) e
      → EndsWell q f (bind w k facts n).next (bind w k facts n).facts (λ p y. Then (bind w k facts n).next p (bind w k facts n).value y) (goes_on e d)
  unfolding bind
  second now stands met ok v h is (well_given x after r s) =
      let at = first after s in
      let m = (w facts n).next in
      let all : EndsWell q f m (w facts n).facts (λ p y. Holds at.0 m p (w facts n).value y) (R.Gives x after) =
      subst (EndsWell q f m (w facts n).facts (λ p y. Holds at.0 m p (w facts n).value y)) is
      ((runs at.0 at.1).run now stands (met_front q (w facts n).notes _ met) ok) in
      let again : Reach q.set q.work after.opened f m (w facts n).facts (λ p. Holds at.0 m p (w facts n).value x) × Sound q after = gave all in
      well_on again.0.later (next at.0 at.1 again.0.point x again.0.later again.0.holds after at.2 again.0.stands
      (met_behind q (w facts n).notes _ met) s)
  second now stands met ok v h is (well_no after a s) = well_no after a s
  second now stands met ok v h is (well_returned u after b s) = well_returned u after b s
  second now stands met ok v h is (well_thrown u after b s) = well_thrown u after b s
  second now stands met ok v h is (well_stopped cause after) = well_stopped cause after

  pub two_passes : Beside q n f facts (bind w k) (c then d) Then
  unfolding bind
  two_passes = record {
    run = λ now stands met ok.
        let at = first now ok in
        second now stands met ok at.0 at.1 refl ((runs at.0 at.1).run now stands (met_front q (w facts n).notes _ met) ok);
  }
