-- What a run reads behind a piece is foreseen, where nothing may be there when the piece begins: a first pass without knowledge ends as the run does, and
-- what is known then is known from the beginning in a second one.
use Rattle.std.proofs.Common.{◌≡◌, ℕ, List, refl, subst}
use Rattle.sail_core.specs.Run as R
use Rattle.sail_core.specs.Run.{Ended, Now, Run, goes_on, ◌then◌}
use Rattle.value_indices.specs.declared.notes.Fact.{Fact}
use Rattle.value_indices.specs.Steps.{Walk, bind}
use Rattle.checked_meaning.specs.Items.{Item}
use Rattle.value_laws.specs.Known.{Point}
use Rattle.soundness_steps.specs.Points.{Later}
use Rattle.soundness_steps.specs.Works.{Scene}
use Rattle.soundness_steps.specs.States.{Sound}
use Rattle.soundness_steps.specs.Steps.{AllMet, Beside, EndsWell, Reach, Stands, well_given, well_no, well_returned, well_stopped, well_thrown}
use Rattle.soundness_steps.proofs.Steps.{met_behind, met_front, well_on}
use Rattle.soundness_targets.proofs.Passes.{gave}

module _ (q : Scene) (n : ℕ) (f : Point n) (facts : List Fact) {A B C D V : Type 0} (w : Walk A) (k : A → Walk C) (d : B → Run Item D)
    (Holds : V → (m : ℕ) → Point m → A → B → Type 0) (Current : V → B → Now Item → Type 0) (Then : (m : ℕ) → Point m → C → D → Type 0) where
  -- behind the piece
  abbrev m : ℕ
  m = (w facts n).next

  abbrev rest : Walk C
  rest = k (w facts n).value

  -- what is known at the end of a pass, of one that began where this stood
  abbrev pub Learns : V → Type 0
  Learns v = (now : Now Item) → Stands q.set q.work now.opened f facts → AllMet q (w facts n).notes → (g : Point m) (x : B) → Later f g
      → Holds v m g (w facts n).value x → (after : Now Item) → Stands q.set q.work after.opened g (w facts n).facts
      → AllMet q (rest (w facts n).facts m).notes → Sound q after → (u : V) × Current u x after

  -- what comes behind, where that is so
  abbrev pub GoesKnown : V → Type 0
  GoesKnown v = (g : Point m) (x : B) → Later f g → Holds v m g (w facts n).value x → (now : Now Item) → Current v x now
      → Stands q.set q.work now.opened g (w facts n).facts → AllMet q (rest (w facts n).facts m).notes → Sound q now
      → EndsWell q g (rest (w facts n).facts m).next (rest (w facts n).facts m).facts
      (λ p y. Then (rest (w facts n).facts m).next p (rest (w facts n).facts m).value y) (d x now)

module _ {q : Scene} {n : ℕ} {f : Point n} {facts : List Fact} {A B C D V : Type 0} {w : Walk A} (k : A → Walk C) {c : Run Item B} (d : B → Run Item D)
    (Holds : V → (m : ℕ) → Point m → A → B → Type 0) (Current : V → B → Now Item → Type 0) (Then : (m : ℕ) → Point m → C → D → Type 0) (blind : V)
    (learns : Learns q n f facts w k d Holds Current Then blind) (runs : (v : V) → Beside q n f facts w c (Holds v))
    (next : (v : V) → GoesKnown q n f facts w k d Holds Current Then v) where
  second : (now : Now Item) → Stands q.set q.work now.opened f facts → AllMet q (bind w k facts n).notes → Sound q now
      → {e : Ended Item B} → c now ≡ e → EndsWell q f (w facts n).next (w facts n).facts (λ p x. Holds blind (w facts n).next p (w facts n).value x) e
      → EndsWell q f (bind w k facts n).next (bind w k facts n).facts (λ p y. Then (bind w k facts n).next p (bind w k facts n).value y) (goes_on e d)
  unfolding bind
  second now stands met ok is (well_given x after r s) =
      let front = met_front q (w facts n).notes _ met in
      let behind = met_behind q (w facts n).notes _ met in
      let at = learns now stands front r.point x r.later r.holds after r.stands behind s in
      let end : ℕ = (w facts n).next in
      let all : EndsWell q f end (w facts n).facts (λ p y. Holds at.0 end p (w facts n).value y) (R.Gives x after) =
      subst (EndsWell q f end (w facts n).facts (λ p y. Holds at.0 end p (w facts n).value y)) is ((runs at.0).run now stands front ok) in
      let again : Reach q.set q.work after.opened f end (w facts n).facts (λ p. Holds at.0 end p (w facts n).value x) × Sound q after = gave all in
      well_on again.0.later (next at.0 again.0.point x again.0.later again.0.holds after at.1 again.0.stands behind s)
  second now stands met ok is (well_no after a s) = well_no after a s
  second now stands met ok is (well_returned u after b s) = well_returned u after b s
  second now stands met ok is (well_thrown u after b s) = well_thrown u after b s
  second now stands met ok is (well_stopped cause after) = well_stopped cause after

  pub late_passes : Beside q n f facts (bind w k) (c then d) Then
  unfolding bind
  late_passes = record {
    run = λ now stands met ok. second now stands met ok refl ((runs blind).run now stands (met_front q (w facts n).notes _ met) ok);
  }
