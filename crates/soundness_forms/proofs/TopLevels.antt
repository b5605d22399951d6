-- Names that top-level lets bound, beside their runs.
use Rattle.std.proofs.Common.{◌≡◌, ℕ, zero, suc, false, List, [], ◌∷◌, slice_get, Option, Some, None, refl, sym, ap, ◌∙◌, subst}
use Rattle.sail_base.specs.declared.place.Place.{Place}
use Rattle.sail_types.specs.Belongs.{belongs}
use Rattle.sail_types.specs.declared.values.Value.{Value}
use Rattle.sail_core.specs.Making.{World, made}
use Rattle.sail_core.specs.Meaning.{kind_meaning}
use Rattle.sail_core.specs.Run.{needs, ◌then◌}
use Rattle.sail_core.specs.declared.tree.Kind.TheVariants as K
use Rattle.value_indices.specs.declared.indices.Naming.TheVariants as M
use Rattle.value_indices.specs.declared.indices.Reading.{Reading}
use Rattle.value_indices.specs.declared.notes.Fact.{Fact}
use Rattle.value_indices.specs.declared.notes.Made.TheVariants as Makes
use Rattle.value_indices.specs.Opening.{opened_for, opening}
use Rattle.value_indices.specs.Steps.{bind}
use Rattle.pattern_leaves.specs.Settings.{Scope}
use Rattle.pattern_leaves.specs.declared.names.TopLevel.{TopLevel}
use Rattle.pattern_leaves.specs.declared.names.TopLevel.TheVariants as T
use Rattle.call_arguments.specs.declared.aims.Aim.{Aim}
use Rattle.call_notes.specs.Ends.{settled}
use Rattle.call_notes.specs.Noted.{node_ended, node_given}
use Rattle.expression_forms.specs.Names.{made_read, read_opened, top_level_walk}
use Rattle.expression_steps.specs.Expressions.{kind_walk}
use Rattle.checked_meaning.specs.Checked.{checked}
use Rattle.checked_meaning.specs.Items.{Item}
use Rattle.value_laws.specs.Known.{Point}
use Rattle.value_laws.proofs.Steps.{same}
use Rattle.soundness_steps.proofs.Points.{agree_on}
use Rattle.soundness_steps.specs.Works.{Scene, Setting, Work, here}
use Rattle.soundness_steps.specs.Steps.{Beside}
use Rattle.soundness_steps.specs.Values.{AimSteady, Belongs, Comes, Has, Is, IsSteady}
use Rattle.soundness_steps.proofs.Steps.{known_walk, makes, runs_then, walks_mean, walks_then}
use Rattle.soundness_forms.specs.Forms.{FitsSuffice}
use Rattle.soundness_forms.specs.Worlds.{LetIs, LetsAre, Surrounds}
use Rattle.soundness_forms.proofs.Basics.{opens, steady_on, then_walks, wrong_walks}
use Rattle.soundness_forms.proofs.Leaves.{needed, wrong_node}
use Rattle.soundness_forms.proofs.Nodes.{node_ends, settled_node}
use Rattle.soundness_steps.proofs.Steps.{walks_on}

-- ---- each name has a value

abbrev LetFound : Setting → Work → Option TopLevel → Option Value → Type 0
LetFound set work None o = Unit {0}
LetFound set work (Some l) o = (v : Value) × (o ≡ Some v) × LetIs set work l v

let_found : (set : Setting) (work : Work) (ls : List TopLevel) (vs : List Value) (i : ℕ) → LetsAre set work ls vs
    → LetFound set work (slice_get ls i) (slice_get vs i)
let_found set work [] [] i h = tt
let_found set work (l ∷ ls) (v ∷ vs) zero h = (v, refl, h.0)
let_found set work (l ∷ ls) (v ∷ vs) (suc i) h = let_found set work ls vs i h.1
let_found set work [] (v ∷ vs) i h = absurd h
let_found set work (l ∷ ls) [] i h = absurd h

-- ---- a value of a type is made, and opened for a name; its sizes are those of the `let`

made_named : {q : Scene} {n : ℕ} {f : Point n} {facts : List Fact} (k : ℕ) (name : List ℕ) (r : Reading) (v : Value)
    → IsSteady q.set q.work f r → Belongs q.set q.work f r v
    → Beside q n f facts (made_read k name r) ((checked q.set.around.types q.cases).make k [] v) (λ m g j y. Is q.set q.work g j y)
unfolding opened_for
made_named {q} k name r v steady belongs =
    then_walks (λ t. opening r false (M.Named name)) (makes k [] (Makes.ByType r) [] v tt belongs) (λ m g fs t y l e.
    walks_mean (λ j d i h. record {
      has = subst (Has q.set q.work d i) (sym e.0) h.0;
      typ = h.1 y.typ e.1;
    }) (opens {q = q} r false (M.Named name) v (steady_on q.set q.work r l steady) (λ h c. belongs h (agree_on l c))))

module _ (fit : FitsSuffice) (q : Scene) (w : World Item) {n : ℕ} (f : Point n) (facts : List Fact) (scope : Scope) (place : Place) (k : ℕ) (aim : Aim)
    (there : Surrounds q w f scope) (st : AimSteady q.set q.work f aim) where
  top_found : (i : ℕ) (o : Option TopLevel) → LetFound q.set q.work o (slice_get w.lets i)
      → Beside q n f facts (bind (bind (top_level_walk q.set.around.types place k o) (settled (here q) place aim)) (node_given k))
      (needs (slice_get w.lets i) then λ v. made (checked q.set.around.types q.cases) k [] v) (λ m g j x. Comes q.set q.work g false false false aim j x)
  top_found i None found = wrong_node (node_given k) _ (walks_on (settled (here q) place aim) (wrong_walks place) (λ m g fs a l e. absurd e))
  top_found i (Some (T.Known d)) found =
      settled_node fit place k aim (needs (slice_get w.lets i)) (λ v. []) (λ v. v) st
      (runs_then (node_ended k [] d) (λ v. (checked q.set.around.types q.cases).make k [] v)
      (needed (λ now. slice_get w.lets i) {P = λ v. LetIs q.set q.work (T.Known d) v} (λ now ok. (found.0, found.1, found.2))) (λ g v l h.
      node_ends k [] d [] v tt (record { meaning = h.0; is_so = h.1; steady = λ x a. h.2 x })))
  top_found i (Some (T.Read name r)) found =
      settled_node fit place k aim (needs (slice_get w.lets i)) (λ v. []) (λ v. v) st
      (runs_then (read_opened q.set.around.types k name r) (λ v. (checked q.set.around.types q.cases).make k [] v)
      (needed (λ now. slice_get w.lets i) {P = λ v. LetIs q.set q.work (T.Read name r) v} (λ now ok. (found.0, found.1, found.2))) (λ g v l h.
      let there = h n g facts in
      walks_then (made_read k name) (known_walk {q = q} there.2) (λ m g2 fs s l2 e.
      made_named k name s v (λ x a. e x a ∙ sym (e g2.integers (same g2))) (λ x a. ap (belongs q.set.around.types v) (e x a) ∙ there.1))))

  pub top_level_fine : (i : ℕ)
      → Beside q n f facts (kind_walk place k (K.TopLevel i) [] (here q) scope aim)
      (kind_meaning (checked q.set.around.types q.cases) w place k (K.TopLevel i) []) (λ m g j x. Comes q.set q.work g false false false aim j x)
  top_level_fine i = top_found i (slice_get q.set.around.lets i) (let_found q.set q.work q.set.around.lets w.lets i there.lets)
