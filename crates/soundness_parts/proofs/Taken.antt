-- A part that a suffix takes out of a value, beside its run.
use Rattle.std.proofs.Common.{◌≡◌, ℕ, true, false, List, [], ◌∷◌, Some, refl, sym, ap, ◌∙◌, subst}
use Rattle.sail_base.specs.declared.place.Place.{Place}
use Rattle.sail_types.specs.declared.values.Value.{Value}
use Rattle.sail_types.proofs.SumNumbers.{some_same}
use Rattle.sail_core.specs.Making.{Making}
use Rattle.sail_core.specs.Meaning.{taken}
use Rattle.sail_core.specs.Run.{goes_on, needs, ◌then◌}
use Rattle.sail_core.specs.Values.{Into}
use Rattle.value_indices.specs.declared.indices.Indices.{Indices}
use Rattle.value_indices.specs.declared.indices.Naming.TheVariants as M
use Rattle.value_indices.specs.declared.notes.Fact.{Fact}
use Rattle.value_indices.specs.Opening.{opened}
use Rattle.value_indices.specs.Steps.{Conditions, owe}
use Rattle.call_arguments.specs.declared.aims.Aim.TheVariants as Aims
use Rattle.call_notes.specs.Noted.{made_opened}
use Rattle.expression_forms.specs.Ways.{indexed, part_made, taken_out}
use Rattle.expression_forms.specs.declared.ways.Reached.{Reached}
use Rattle.checked_meaning.specs.Items.{Item}
use Rattle.checked_meaning.specs.Checked.{checked}
use Rattle.value_laws.specs.Belonging.{Integers, is_of, standing}
use Rattle.value_laws.specs.Known.{Point, Agree}
use Rattle.value_laws.proofs.Steps.{same}
use Rattle.way_laws.specs.Laws.{AreTrue, HasPart}
use Rattle.way_laws.proofs.Conditions.{none_needed}
use Rattle.soundness_steps.proofs.Points.{agree_on, no_later}
use Rattle.soundness_steps.specs.Works.{Scene}
use Rattle.soundness_steps.specs.Steps.{Beside, Walks}
use Rattle.soundness_steps.specs.Values.{AllTyped, Is, IsSteady}
use Rattle.soundness_steps.proofs.Steps.{means, owes, runs_as, walks_then}
use Rattle.soundness_forms.proofs.Basics.{steady_on}
use Rattle.soundness_forms.proofs.Casts.{comes_is}
use Rattle.soundness_forms.proofs.Nodes.{ends_node, made_opens, typed_on}

-- what is owed is true, also where that is nothing
pub owed : {q : Scene} {n : ℕ} {f : Point n} {facts : List Fact} (place : Place) (cs : Conditions)
    → Walks q n f facts (owe place cs) (λ m g t. (h : Integers) → Agree g h → AreTrue (standing q.set.past h) cs)
unfolding owe
owed {q} {f} place [] = record {
  go = λ noted stands met. record {
    point = f;
    later = no_later f;
    stands = stands;
    holds = λ h a. none_needed (standing q.set.past h);
  };
}
owed place (some ∷ cs) = owes place some cs

module _ (q : Scene) where
  -- how nodes make values there
  abbrev pub z : Making Item
  z = checked q.set.around.types q.cases

  -- where what is owed is true, the value has the part, whatever the variables stand for that aren't fixed
  abbrev pub HasThere : {n : ℕ} → Point n → Indices → Value → Reached → Into → Type 0
  HasThere f i v r way = (g : Integers) → Agree f g → AreTrue (standing q.set.past g) r.conditions
      → HasPart q.set.around.types (standing q.set.past g) q.work.types i v r.typ way

module _ {q : Scene} {n : ℕ} {f : Point n} {facts : List Fact} (place : Place) (k : ℕ) (i : Indices) (x : Item) (r : Reached) (way : Into) (xs : List Item) where
  part_fine : Is q.set q.work f i x → AllTyped q.set q.work f (indexed r) xs → HasThere q f i x.val r way → IsSteady q.set q.work f r.typ
      → Beside q n f facts (part_made place k (i ∷ indexed r) r) (needs (way.take_out x.val) then λ v. (z q).make k (x ∷ xs) v)
      (λ m g j y. Is q.set q.work g j y)
  unfolding opened
  part_fine h typed part steady =
      walks_then (λ t. made_opened place k (i ∷ indexed r) r.typ) (owed place r.conditions) (λ m g fs t l met.
      let there : (c : Integers) → Agree g c → HasPart q.set.around.types (standing q.set.past c) q.work.types i x.val r.typ way =
      λ c a. part c (agree_on l a) (met c a) in
      let first = there g.integers (same g) in
      runs_as (λ now. ap (λ o. goes_on (needs o now) (λ v. (z q).make k (x ∷ xs) v)) (sym first.is_there))
      (made_opens place k (i ∷ indexed r) r.typ false M.Unnamed (x ∷ xs) first.part
      ((λ exact c a. h.typ exact c (agree_on l a)), typed_on q.set q.work (indexed r) xs l typed) (steady_on q.set q.work r.typ l steady) (λ c a.
      let other = there c a in
      subst (λ u. is_of q.set.around.types (standing q.set.past c) q.work.types r.typ u ≡ true)
      (some_same other.part first.part (sym other.is_there ∙ first.is_there)) other.is_typed)))

  -- with the numbers that it gives
  pub taken_fine : Is q.set q.work f i x → AllTyped q.set q.work f (indexed r) xs → HasThere q f i x.val r way → IsSteady q.set q.work f r.typ
      → Beside q n f facts (taken_out place k i (Some r)) (taken (z q) k way x xs) (λ m g j y. Is q.set q.work g j y)
  taken_fine h typed part steady =
      means (λ m g j y l c. comes_is false false Aims.Free j y c)
      (ends_node k (needs (way.take_out x.val)) (λ v. x ∷ xs) (λ v. v) false false false Aims.Free
      (means (λ m g j y l c. record { has = c.has; typ = c.typ; met = tt; ends = refl }) (part_fine h typed part steady)))
