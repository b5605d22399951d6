-- The end of a node that makes a value of its parts, from left to right.
use Rattle.std.proofs.Common.{◌≡◌, ℕ, false, List, refl, sym}
use Rattle.sail_base.specs.declared.place.Place.{Place}
use Rattle.sail_types.specs.declared.values.Value.{Value}
use Rattle.sail_core.specs.Making.{made}
use Rattle.sail_core.specs.Run as R
use Rattle.sail_core.specs.Run.{Ended, Run, gives, goes_on, ◌then◌}
use Rattle.value_indices.specs.declared.indices.Indices.{Indices}
use Rattle.value_indices.specs.declared.notes.Fact.{Fact}
use Rattle.value_indices.specs.Steps.{Walk, bind}
use Rattle.call_arguments.specs.declared.aims.Aim.{Aim}
use Rattle.call_notes.specs.Ends.{settled}
use Rattle.call_notes.specs.Noted.{node_given}
use Rattle.checked_meaning.specs.Checked.{checked}
use Rattle.checked_meaning.specs.Items.{Item}
use Rattle.value_laws.specs.Known.{Point}
use Rattle.soundness_steps.specs.Works.{Scene, here}
use Rattle.soundness_steps.specs.Steps.{Beside}
use Rattle.soundness_steps.specs.Values.{AimSteady, Comes, Is}
use Rattle.soundness_steps.proofs.Steps.{runs_as}
use Rattle.soundness_forms.specs.Forms.{FitsSuffice}
use Rattle.soundness_forms.proofs.Nodes.{settled_node}

-- what is made of parts, with them beside it
pair_then : {A B C : Type 0} (xs : A) (m : A → B → Run Item C) (e : Ended Item B)
    → goes_on (goes_on e (λ v. gives (xs, v))) (λ (b : A × B). m b.0 b.1) ≡ goes_on e (m xs)
pair_then xs m (R.Gives v now) = refl
pair_then xs m (R.No now) = refl
pair_then xs m (R.Returns v now) = refl
pair_then xs m (R.Throws v now) = refl
pair_then xs m (R.Stops cause now) = refl
pair_then xs m R.Stuck = refl

pairs_then : {A B C : Type 0} (c : A → Run Item B) (m : A → B → Run Item C) (e : Ended Item A)
    → goes_on (goes_on e (λ xs. c xs then λ v. gives (xs, v))) (λ (b : A × B). m b.0 b.1) ≡ goes_on e (λ xs. c xs then m xs)
pairs_then c m (R.Gives xs now) = pair_then xs m (c xs now)
pairs_then c m (R.No now) = refl
pairs_then c m (R.Returns v now) = refl
pairs_then c m (R.Throws v now) = refl
pairs_then c m (R.Stops cause now) = refl
pairs_then c m R.Stuck = refl

-- a value that is made of parts comes to what is wanted of it, and its numbers are noted
pub parts_node : FitsSuffice → {q : Scene} {n : ℕ} {f : Point n} {facts : List Fact} {w : Walk Indices} (place : Place) (k : ℕ) (aim : Aim)
    (r : Run Item (List Item)) (c : List Item → Run Item Value) → AimSteady q.set q.work f aim
    → Beside q n f facts w (r then λ xs. c xs then λ v. (checked q.set.around.types q.cases).make k xs v) (λ m g i x. Is q.set q.work g i x)
    → Beside q n f facts (bind (bind w (settled (here q) place aim)) (node_given k))
    (r then λ xs. c xs then λ v. made (checked q.set.around.types q.cases) k xs v) (λ m g i x. Comes q.set q.work g false false false aim i x)
parts_node fit {q} place k aim r c st h =
    let z = checked q.set.around.types q.cases in
    runs_as (λ now. pairs_then c (λ xs v. made z k xs v) (r now))
    (settled_node fit place k aim (r then λ xs. c xs then λ v. gives (xs, v)) (λ b. b.0) (λ b. b.1) st
    (runs_as (λ now. sym (pairs_then c (λ xs v. z.make k xs v) (r now))) h))
