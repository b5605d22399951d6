-- Where ways meet of which no type is wanted: the way that runs is met, and the node makes its value anew.
use Rattle.std.proofs.Common.{◌≤◌, ℕ, Bool, true, List, [], ◌∷◌, Option, Some, None, sym, ap, ◌∙◌}
use Rattle.sail_base.specs.declared.place.Place.{Place}
use Rattle.sail_types.specs.Belongs.{belongs}
use Rattle.sail_types.specs.Zero.{deepest}
use Rattle.sail_types.specs.declared.shapes.Shape.{Shape}
use Rattle.sail_types.specs.declared.values.Value.{Value}
use Rattle.sail_core.specs.Making.{nothing}
use Rattle.value_indices.specs.Steps.{bind, give, size_note}
use Rattle.value_indices.specs.declared.indices.Indices.{Indices}
use Rattle.value_indices.specs.declared.indices.Indices.TheVariants as I
use Rattle.value_indices.specs.declared.notes.Fact.{Fact}
use Rattle.value_indices.specs.declared.notes.Made.TheVariants as Makes
use Rattle.wide_types.specs.Widening.{value_spelled}
use Rattle.call_notes.specs.Ends.{sized}
use Rattle.call_notes.specs.Noted.{node_ended}
use Rattle.expression_forms.specs.Meeting.{met_ways}
use Rattle.expression_steps.specs.Statements.{met_made}
use Rattle.checked_meaning.specs.Items.{Item}
use Rattle.value_laws.specs.Known.{Point}
use Rattle.meeting_laws.specs.Laws.{AgreeingIsSound, HasItsType, MeetingIsSound}
use Rattle.meeting_laws.proofs.Agreeing.{agrees_so}
use Rattle.meeting_laws.proofs.Forms.{is_wide, widened_is}
use Rattle.meeting_laws.proofs.Kept.{keeps_value}
use Rattle.meeting_laws.proofs.Spelled.{spelled_wider}
use Rattle.soundness_steps.specs.Works.{Scene, here}
use Rattle.soundness_steps.specs.Steps.{Beside, Walks}
use Rattle.soundness_steps.specs.Values.{Has, Is}
use Rattle.soundness_steps.proofs.Steps.{given_back, means, notes, walks_on, walks_then}
use Rattle.soundness_forms.specs.Forms.{FitsSuffice}
use Rattle.soundness_forms.specs.Joins.{FreeJoining, MetGrows}
use Rattle.soundness_forms.proofs.Basics.{has_on}
use Rattle.soundness_forms.proofs.JoinGrowth.{behind_grows}
use Rattle.soundness_forms.proofs.Joins.{unit_is, z}
use Rattle.soundness_forms.proofs.Nodes.{node_ends}
use Rattle.soundness_joins.proofs.AgreementCounts.{agreement_counts}
use Rattle.soundness_joins.proofs.Meeting.{Came, MetFree, by_filling, by_numbers, by_type, meets, taken_free}

-- ---- laws of what is kept of a first way

met_sound : MeetingIsSound
met_sound types past own first shape m f full h agree v k n p facts later =
    keeps_value types past own f full h agree (value_spelled first) shape n p facts later v
    (spelled_wider types past own h first v (sym (ap (belongs types v) (widened_is types past own h first)) ∙ k))

agree_sound : AgreeingIsSound
agree_sound types past own first later shape m f full h agree told tells k v e n p facts behind =
    agrees_so types past own f full h agree deepest (value_spelled first) (value_spelled later) told tells k shape n p facts behind v
    (spelled_wider types past own h later v (sym (ap (belongs types v) (widened_is types past own h later)) ∙ e))

own_type : HasItsType
own_type types past own g i v h = ap (belongs types v) (widened_is types past own g i) ∙ is_wide types past own g i v h

-- ---- the way that runs may say No, or not

module _ (q : Scene) (m : ℕ) (falls : Bool) where
  abbrev there : Scene
  there = record q { may_fall = falls }

  came_back : {n : ℕ} (f : Point n) (first : Indices) (v : Value) → Came there m f first v → Came q m f first v
  came_back f first v (by_type b) = by_type b
  came_back f first v (by_filling shape i e b) = by_filling shape i e b
  came_back f first v (by_numbers i t u c b) = by_numbers i t u c b

  met_back : {n : ℕ} (f : Point n) (o : Option Indices) (x : Item) → MetFree there m n f o x → MetFree q m n f o x
  met_back f None x h = absurd h
  met_back f (Some first) x h = came_back f first x.val h

-- ---- behind all ways

module _ (q : Scene) (m : ℕ) where
  ways_met : {n : ℕ} {f : Point n} {facts : List Fact} (place : Place) (shape : Shape) (first : Indices) (x : Item) → m ≤ n → MetFree q m n f (Some first) x
      → Walks q n f facts (met_ways (here q) place m shape (Some first)) (λ j g i. Has q.set q.work g i x.val)
  ways_met place shape first x le h =
      walks_on (λ j. bind (sized place j) (λ t. give j))
      (meets q m met_sound agree_sound own_type shape first x.val le h) (λ j g fs i l has.
      walks_on (λ t. give i) (notes (λ gs. size_note gs place (Makes.ByIndices i))) (λ k p gs t b u. given_back i (has_on b has)))

  free_made : (place : Place) (k : ℕ) (shape : Shape) (o : Option Indices) (x : Item) {n : ℕ} {f : Point n} {facts : List Fact} → m ≤ n → MetFree q m n f o x
      → Beside q n f facts (met_made (here q) place k shape None m o) ((z q).make k (nothing (z q) ∷ []) x.val)
      (λ j g i y. Is q.set q.work g i y × Unit {0})
  free_made place k shape None x le h = absurd h
  free_made place k shape (Some first) x le h =
      means (λ j g i y l e. (e, tt))
      (walks_then (node_ended k (I.Unit ∷ [])) (ways_met place shape first x le h) (λ j g fs i l has.
      node_ends k (I.Unit ∷ []) i (nothing (z q) ∷ []) x.val ((unit_is q g).typ, tt) has))

pub free_joining : FitsSuffice → MetGrows → FreeJoining
free_joining fit grows q m shape = record {
  grows = λ w first h. behind_grows grows agreement_counts (here q) true m shape w first h;
  Met = MetFree q m;
  taken = λ falls nested w after c first n f facts le h b.
      means (λ j g o x l e. (met_back q m falls g o x e.0, e.1))
      (taken_free (record q { may_fall = falls }) m met_sound agree_sound own_type fit shape grows agreement_counts nested w after c first le h b);
  made = λ place k o x n f facts le st h. free_made q m place k shape o x le h;
}
