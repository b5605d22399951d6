-- A type that is filled in is one and the same at a point behind it: numbers that are kept name variables from before, and all others are fresh.
use Rattle.std.proofs.Common.{◌≡◌, ℕ, List, sym, ◌∙◌}
use Rattle.std.proofs.lemmas.Bool.{lt-ltb}
use Rattle.sail_types.specs.Belongs.{Reading as Closed}
use Rattle.sail_types.specs.declared.shapes.Shape.{Shape}
use Rattle.value_indices.specs.Steps.{Walk, bind, next_variable}
use Rattle.value_indices.specs.declared.indices.Indices.{Indices}
use Rattle.value_indices.specs.declared.indices.Reading.TheVariants as R
use Rattle.value_indices.specs.declared.notes.Fact.{Fact}
use Rattle.wide_types.specs.Widening.{filled}
use Rattle.expression_steps.specs.Values.{filled_here}
use Rattle.value_laws.specs.Belonging.{closed, standing}
use Rattle.value_laws.specs.Known.{Goes, Point}
use Rattle.value_laws.proofs.Steps as Knowing
use Rattle.value_laws.proofs.Steps.{gives, goes_then, same}
use Rattle.meeting_laws.proofs.Forms.{widened_is}
use Rattle.meeting_laws.proofs.Kept.{keeps_wide}
use Rattle.soundness_steps.proofs.Points.{later_on, later_whole, whole}
use Rattle.soundness_steps.specs.Works.{Scene, here}
use Rattle.soundness_steps.specs.Steps.{Walks}
use Rattle.soundness_steps.specs.Values.{IsSteady}
use Rattle.soundness_steps.proofs.Steps.{known_walk, stands_on}

-- with the number of the next variable
pub walks_next : {q : Scene} {n : ℕ} {f : Point n} {facts : List Fact} {A : Type 0} (k : ℕ → Walk A) {Holds : (m : ℕ) → Point m → A → Type 0}
    → Walks q n f facts (k n) Holds → Walks q n f facts (bind next_variable k) Holds
unfolding bind next_variable
walks_next k b = record { go = λ noted stands met. b.go noted stands met }

module _ (q : Scene) {n : ℕ} (f : Point n) (facts : List Fact) (shape : Shape) (i : Indices) where
  record Fills : Type 0 where
    pub of_type : Closed
    pub goes : Goes q.set.past n (whole f) facts (filled q.set.around.types n shape i)
        (λ g r. closed q.set.around.types (standing q.set.past g) q.work.types r ≡ of_type)

  fills : Fills
  fills =
      let types = q.set.around.types in
      let kept = keeps_wide types q.set.past q.work.types (whole f) (λ v l. lt-ltb v n l) f.integers (same (whole f)) i shape n (whole f) facts
      (Knowing.no_later (whole f)) in
      record {
        of_type = kept.0;
        goes = goes_then kept.2 (λ k p fs j b e. gives (R.Widened j) (λ g a. widened_is types q.set.past q.work.types g j ∙ e g a));
      }

  pub filled_steady : Walks q n f facts (filled q.set.around.types n shape i) (λ m g r. IsSteady q.set q.work g r)
  filled_steady = record {
    go = λ noted stands met.
        let r = (known_walk {q = q} fills.goes).go noted (stands_on (later_whole f) stands) met in
        record {
          point = r.point;
          later = later_on (later_whole f) r.later;
          stands = r.stands;
          holds = λ g a. r.holds g a ∙ sym (r.holds r.point.integers (same r.point));
        };
  }

  pub filling_steady : Walks q n f facts (filled_here (here q) shape i) (λ m g r. IsSteady q.set q.work g r)
  filling_steady = walks_next (λ m. filled q.set.around.types m shape i) filled_steady
