-- What is taken of widened types, and of types of items, is so.
use Rattle.std.proofs.Common.{ℕ, List, ap, ◌∙◌}
use Rattle.sail_types.specs.Belongs.{belongs}
use Rattle.sail_types.specs.Zero.{deepest}
use Rattle.value_indices.specs.Steps.{Walk}
use Rattle.value_indices.specs.declared.notes.Fact.{Fact}
use Rattle.wide_types.specs.Widening.{wide_value}
use Rattle.value_fits.specs.Fitting.{fits, item_fits}
use Rattle.value_laws.specs.Known.{Point}
use Rattle.fitting_laws.proofs.Counted.{fits_count}
use Rattle.fitting_laws.proofs.Deep.{fits_go}
use Rattle.fitting_laws.proofs.Forms.{item_suffices}
use Rattle.meeting_laws.proofs.Forms.{is_wide, widened_is}
use Rattle.meeting_laws.proofs.Widened.{value_widens}
use Rattle.soundness_steps.specs.Points.{Later}
use Rattle.soundness_steps.proofs.Points.{agree_on}
use Rattle.soundness_steps.specs.Works.{Scene}
use Rattle.soundness_steps.specs.Steps.{Walks}
use Rattle.soundness_steps.proofs.Steps.{walks_mean}
use Rattle.soundness_fits.proofs.Owing.{suffices_walks}
use Rattle.soundness_values.specs.Likeness.{LikenessSuffices}
use Rattle.soundness_values.specs.Widening.{WideningSuffices}

pub widening : WideningSuffices
widening types past own g i v h =
    ap (belongs types v) (widened_is types past own g (wide_value i)) ∙ value_widens types past own g i v (is_wide types past own g i v h)

-- a walk ends at a later point
pub walks_later : {q : Scene} {n : ℕ} {f : Point n} {facts : List Fact} {A : Type 0} {w : Walk A} {Holds : (m : ℕ) → Point m → A → Type 0}
    → Walks q n f facts w Holds → Walks q n f facts w (λ m g a. Later f g × Holds m g a)
walks_later b = record {
  go = λ noted stands met.
      let r = b.go noted stands met in record { point = r.point; later = r.later; stands = r.stands; holds = (r.later, r.holds) };
}

pub likeness : LikenessSuffices
likeness q n f facts place r s steady wanted =
    let types = q.set.around.types in
    walks_mean (λ m g t k v b h a. k.1 h a v (b h (agree_on k.0 a)))
    (walks_later (suffices_walks {q = q} place (item_fits (fits types) r s)
    (item_suffices types q.set.past q.work.types (fits types) (fits_go types q.set.past q.work.types deepest) (fits_count types deepest) n f r s wanted.1
    steady wanted.0)))
