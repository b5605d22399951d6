-- What holds behind a piece may speak of the facts that are in force there.
use Rattle.std.proofs.Common.{ℕ, List}
use Rattle.sail_core.specs.Run.{Ended, Run}
use Rattle.value_indices.specs.declared.notes.Fact.{Fact}
use Rattle.value_indices.specs.Steps.{Walk}
use Rattle.checked_meaning.specs.Checked.{Noted}
use Rattle.checked_meaning.specs.Items.{Item}
use Rattle.value_laws.specs.Known.{Point}
use Rattle.soundness_steps.specs.Points.{Later}
use Rattle.soundness_steps.specs.Works.{Scene}
use Rattle.soundness_steps.specs.Steps.{Beside, EndsWell, well_given, well_no, well_returned, well_stopped, well_thrown}
use Rattle.soundness_targets.proofs.Moments.{At}

abbrev pub Holding : Type 0 → Type 0 → Type 1
Holding A B = (m : ℕ) → Point m → List Fact → A → B → Type 0

abbrev pub Behind : (q : Scene) (n : ℕ) → Point n → List Fact → {A B : Type 0} → Walk A → Run Item B → Holding A B → Type 0
Behind q n f facts w c H = Beside q n f facts w c (λ m g a x. H m g (w facts n).facts a x)

pub ends_means : {q : Scene} {n m : ℕ} {f : Point n} {fs : List Fact} {B : Type 0} {Holds Then : Point m → B → Type 0} {e : Ended Item B}
    → ((g : Point m) (x : B) → Later f g → Holds g x → Then g x) → EndsWell q f m fs Holds e → EndsWell q f m fs Then e
ends_means say (well_given x now r h) =
    well_given x now (record { point = r.point; later = r.later; stands = r.stands; holds = say r.point x r.later r.holds }) h
ends_means say (well_no now a h) = well_no now a h
ends_means say (well_returned v now b h) = well_returned v now b h
ends_means say (well_thrown v now b h) = well_thrown v now b h
ends_means say (well_stopped cause now) = well_stopped cause now

pub at_means : {q : Scene} {n : ℕ} {f : Point n} {facts : List Fact} {noted : Noted} {A B : Type 0} {w : Walk A} {e : Ended Item B}
    {Holds Then : (m : ℕ) → Point m → A → B → Type 0}
    → ((p : Point (w facts n).next) (x : B) → Later f p → Holds (w facts n).next p (w facts n).value x → Then (w facts n).next p (w facts n).value x)
    → At q n f facts w noted e Holds → At q n f facts w noted e Then
at_means say b = record { go = λ stands met. ends_means say (b.go stands met) }
