-- The value of a name that is read only later: it is opened where the walk has it.
use Rattle.std.proofs.Common.{◌≡◌, ℕ, false, List, []}
use Rattle.sail_base.specs.declared.place.Place.{Place}
use Rattle.sail_types.specs.declared.values.Value.{Value}
use Rattle.value_indices.specs.Opening.{opened_for, opening}
use Rattle.value_indices.specs.Steps.{made_note, note, size_note}
use Rattle.value_indices.specs.declared.indices.Naming.TheVariants as M
use Rattle.value_indices.specs.declared.indices.Reading.{Reading}
use Rattle.value_indices.specs.declared.notes.Fact.{Fact}
use Rattle.value_indices.specs.declared.notes.Made.TheVariants as Makes
use Rattle.call_arguments.specs.Holes.{has_hole, value_has_hole}
use Rattle.expression_forms.specs.Names.{named_opened, named_read}
use Rattle.value_laws.specs.Known.{Point}
use Rattle.soundness_steps.proofs.Points.{agree_on, later_on, no_later}
use Rattle.soundness_steps.specs.Works.{Scene}
use Rattle.soundness_steps.specs.Steps.{Walks}
use Rattle.soundness_steps.specs.Values.{Belongs, IsSteady}
use Rattle.soundness_steps.proofs.Steps.{notes, walks_mean, walks_on}
use Rattle.soundness_forms.proofs.Basics.{steady_on}
use Rattle.soundness_targets.proofs.Again.{CanMake}
use Rattle.soundness_targets.proofs.PartWrites.{Seen}
use Rattle.soundness_targets.proofs.Spots.{opens_kept, walks_with}
use Rattle.soundness_targets.proofs.Wholes.{opened_whole}

-- a note of what is made, as what is known of the node
note_met : {q : Scene} {n : ℕ} {f : Point n} {facts : List Fact} (b : ℕ) (r : Reading)
    → Walks q n f facts (note (λ fs. made_note fs b [] (Makes.ByType r))) (λ m g t. CanMake q facts b [] (Makes.ByType r))
unfolding note
note_met {f} b r = record { go = λ noted stands met. record { point = f; later = no_later f; stands = stands; holds = met.0 } }

pub seen : {q : Scene} {n : ℕ} {f : Point n} {facts : List Fact} (place : Place) (b : ℕ) (name : List ℕ) (r : Reading) (v : Value)
    → has_hole r ≡ false → IsSteady q.set q.work f r → Belongs q.set q.work f r v
    → Walks q n f facts (named_read place b name r) (λ m g held. Seen q facts b r g held v × (value_has_hole held ≡ false))
unfolding opened_for
seen {q} place b name r v whole steady belongs =
    walks_on (λ t. named_opened place name r) (note_met b r) (λ m g fs t l makes.
    walks_on (λ u. opening r false (M.Named name)) (notes (λ gs. size_note gs place (Makes.ByType r))) (λ d c gs u l2 e.
    walks_mean (λ j p held h. (record { has_v = h.2.0; keeps = h.2.1; makes = makes }, h.1))
    (walks_with (λ i. value_has_hole i ≡ false) (opened_whole r whole false (M.Named name) gs d)
    (opens_kept r false (M.Named name) v (steady_on q.set q.work r (later_on l l2) steady) (λ k a. belongs k (agree_on (later_on l l2) a))))))
