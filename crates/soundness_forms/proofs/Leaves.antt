-- Literals and names that are read, beside their runs.
use Rattle.std.proofs.Common.{◌≡◌, ℕ, true, false, List, [], ◌∷◌, Option, Some, None, sym, ap, ◌∙◌, subst}
use Rattle.sail_base.specs.declared.place.Place.{Place}
use Rattle.sail_types.specs.Belongs.{Reading as Closed, belongs}
use Rattle.sail_types.specs.declared.values.Value.{Value}
use Rattle.sail_core.specs.Run as R
use Rattle.sail_core.specs.Run.{Local, Now, Run, needs, ◌then◌}
use Rattle.sail_core.specs.Making.{World, made}
use Rattle.sail_core.specs.Meaning.{kind_meaning}
use Rattle.sail_core.specs.declared.tree.Kind.TheVariants as K
use Rattle.value_indices.specs.declared.indices.Indices.{Indices}
use Rattle.value_indices.specs.declared.indices.Naming.TheVariants as M
use Rattle.value_indices.specs.declared.indices.Reading.{Reading}
use Rattle.value_indices.specs.declared.notes.Fact.{Fact}
use Rattle.value_indices.specs.Opening.{opened_for}
use Rattle.value_indices.specs.Steps.{Walk, bind, give}
use Rattle.pattern_leaves.specs.Settings.{Scope, held_in}
use Rattle.pattern_leaves.specs.declared.names.Held.{Held}
use Rattle.pattern_leaves.specs.declared.names.Held.TheVariants as H
use Rattle.call_arguments.specs.declared.aims.Aim.{Aim}
use Rattle.call_notes.specs.Ends.{settled, wrong_value}
use Rattle.call_notes.specs.Noted.{node_ended, node_given}
use Rattle.expression_forms.specs.Names.{local_walk, named_read, variable_walk}
use Rattle.expression_steps.specs.Expressions.{kind_walk}
use Rattle.checked_meaning.specs.Items.{Item}
use Rattle.checked_meaning.specs.Checked.{checked}
use Rattle.value_laws.specs.Belonging.{Integers, standing, closed}
use Rattle.value_laws.specs.Known.{Point, Agree}
use Rattle.value_laws.proofs.Steps.{same}
use Rattle.soundness_steps.proofs.Points.{agree_on, no_later}
use Rattle.soundness_steps.specs.Works.{Scene, here}
use Rattle.soundness_steps.specs.States.{Sound}
use Rattle.soundness_steps.specs.Steps.{EndsWell, well_given, Beside, Walks, no_walk}
use Rattle.soundness_steps.specs.Values.{Is, AimSteady, Comes, HeldVar}
use Rattle.soundness_steps.proofs.Steps.{runs_then, walks_then, walks_on}
use Rattle.soundness_forms.specs.Forms.{FitsSuffice}
use Rattle.soundness_forms.specs.Worlds.{Surrounds}
use Rattle.soundness_forms.proofs.Basics.{is_on, wrong_walks}
use Rattle.soundness_forms.proofs.Names.{Found, finds}
use Rattle.soundness_forms.proofs.Nodes.{made_opens, node_ends, settled_node}

-- ---- what is there in a run

needs_well : {q : Scene} {n : ℕ} {f : Point n} {m : ℕ} {fs : List Fact} {B : Type 0} {Holds : Point m → B → Type 0} (o : Option B) (x : B)
    (now : Now Item) → o ≡ Some x → EndsWell q f m fs Holds (R.Gives x now) → EndsWell q f m fs Holds (needs o now)
needs_well {q} {n} {f} {m} {fs} {B} {Holds} o x now e h = subst (λ p. EndsWell q f m fs Holds (needs p now)) (sym e) h

pub needed : {q : Scene} {n : ℕ} {f : Point n} {facts : List Fact} {B : Type 0} (o : Now Item → Option B) {P : B → Type 0}
    → ((now : Now Item) → Sound q now → (x : B) × (o now ≡ Some x) × P x)
    → Beside q n f facts no_walk (λ now. needs (o now) now) (λ m p t x. P x)
unfolding give
needed {q} {n} {f} o {P} there = record {
  run = λ now stands met ok.
      let h = there now ok in
      needs_well (o now) h.0 now h.1 (well_given h.0 now (record { point = f; later = no_later f; stands = stands; holds = h.2 }) ok);
}

-- ---- what is wrong is never met

pub wrong_node : {q : Scene} {n : ℕ} {f : Point n} {facts : List Fact} {A B C : Type 0} {w : Walk A} (k : A → Walk C) (c : Run Item B)
    {Holds : (m : ℕ) → Point m → C → B → Type 0} → Walks q n f facts w (λ m g a. ⊥) → Beside q n f facts (bind w k) c Holds
wrong_node k c h = walks_then k h (λ m g fs a l e. absurd e)

-- a value of a type that is one and the same is made, and opened for a name
opened_name : {q : Scene} {n : ℕ} {f : Point n} {facts : List Fact} (place : Place) (k : ℕ) (name : List ℕ) (r : Reading) (v : Value) (t : Closed)
    → belongs q.set.around.types v t ≡ true
    → ((g : Integers) → Agree f g → closed q.set.around.types (standing q.set.past g) q.work.types r ≡ t)
    → Beside q n f facts (named_read place k name r) ((checked q.set.around.types q.cases).make k [] v) (λ m g j y. Is q.set q.work g j y)
unfolding opened_for
opened_name {q} {n} {f} place k name r v t h e = made_opens place k [] r false (M.Named name) [] v tt
    (λ g a. e g a ∙ sym (e f.integers (same f))) (λ g a. ap (belongs q.set.around.types v) (e g a) ∙ h)

module _ (fit : FitsSuffice) (q : Scene) (w : World Item) {n : ℕ} (f : Point n) (facts : List Fact) (scope : Scope) (place : Place) (k : ℕ) (aim : Aim)
    (there : Surrounds q w f scope) (st : AimSteady q.set q.work f aim) where
  abbrev Leaf : Walk Indices → Run Item Item → Type 0
  Leaf walk run = Beside q n f facts (bind (bind walk (settled (here q) place aim)) (node_given k)) run
      (λ m g i x. Comes q.set q.work g false false false aim i x)

  wrong_leaf : (c : Run Item Item) → Leaf (wrong_value place) c
  wrong_leaf c = wrong_node (node_given k) c (walks_on (settled (here q) place aim) (wrong_walks place) (λ m g fs a l e. absurd e))

  -- ---- names that a pattern bound

  local_found : (name : List ℕ) (held : Option Held) → ((now : Now Item) → Sound q now → Found q.set q.work f held (R.held_in name now.locals))
      → Leaf (local_walk place k held) ((λ now. needs (R.held_in name now.locals) now) then λ x. made (checked q.set.around.types q.cases) k (x ∷ []) x.val)
  local_found name None found = wrong_leaf _
  local_found name (Some (H.Var r)) found = wrong_leaf _
  local_found name (Some (H.Value i)) found =
      settled_node fit place k aim (λ now. needs (R.held_in name now.locals) now) (λ x. x ∷ []) (λ x. x.val) st
      (runs_then (node_ended k (i ∷ []) i) (λ x. (checked q.set.around.types q.cases).make k (x ∷ []) x.val)
      (needed (λ now. R.held_in name now.locals) found) (λ g x l h.
      let b = is_on l h in node_ends k (i ∷ []) i (x ∷ []) x.val (b.typ, tt) b.has))

  pub local_fine : (name : List ℕ)
      → Beside q n f facts (kind_walk place k (K.Local name) [] (here q) scope aim)
      (kind_meaning (checked q.set.around.types q.cases) w place k (K.Local name) []) (λ m g i x. Comes q.set q.work g false false false aim i x)
  local_fine name = local_found name (held_in name scope) (λ now ok. finds q.set q.work f name scope q.names now.locals there.names ok.names)

  -- ---- variables

  variable_found : (name : List ℕ) (held : Option Held) → ((now : Now Item) → Sound q now → Found q.set q.work f held (R.held_in name now.locals))
      → Leaf (variable_walk place k name held) ((λ now. needs (R.held_in name now.locals) now) then λ x. made (checked q.set.around.types q.cases) k [] x.val)
  variable_found name None found = wrong_leaf _
  variable_found name (Some (H.Value i)) found = wrong_leaf _
  variable_found name (Some (H.Var r)) found =
      settled_node fit place k aim (λ now. needs (R.held_in name now.locals) now) (λ x. []) (λ x. x.val) st
      (runs_then (named_read place k name r) (λ x. (checked q.set.around.types q.cases).make k [] x.val)
      (needed (λ now. R.held_in name now.locals) {P = λ x. (t : Closed) × (belongs q.set.around.types x.val t ≡ true) × HeldVar q.set q.work f (H.Var r) t}
      (λ now ok. let h = found now ok in (h.0, h.2, (h.1, h.3, h.4))))
      (λ g x l h. opened_name place k name r x.val h.0 h.1 (λ j a. h.2.0 j (agree_on l a))))

  pub variable_fine : (name : List ℕ)
      → Beside q n f facts (kind_walk place k (K.Variable name) [] (here q) scope aim)
      (kind_meaning (checked q.set.around.types q.cases) w place k (K.Variable name) []) (λ m g i x. Comes q.set q.work g false false false aim i x)
  variable_fine name = variable_found name (held_in name scope) (λ now ok. finds q.set q.work f name scope q.names now.locals there.names ok.names)
