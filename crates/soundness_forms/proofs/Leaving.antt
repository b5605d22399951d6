-- `return` and `exit`, beside their runs.
use Rattle.std.proofs.Common.{◌≡◌, ℕ, Bool, true, false, List, [], ◌∷◌, Option, Some, None, if◌then◌else◌, refl, sym, ap, ◌∙◌, subst}
use Rattle.sail_base.specs.declared.place.Place.{Place}
use Rattle.sail_types.specs.Belongs.{Reading as Closed, belongs}
use Rattle.sail_types.specs.declared.values.Value.{Value}
use Rattle.model_state.specs.declared.cause.Cause.TheVariants.{Exit}
use Rattle.sail_core.specs.Making.{World}
use Rattle.sail_core.specs.Meaning.{kind_meaning}
use Rattle.sail_core.specs.Run.{Run, returns, stops, ◌then◌}
use Rattle.sail_core.specs.declared.tree.Kind.TheVariants as K
use Rattle.value_indices.specs.declared.indices.Indices.{Indices}
use Rattle.value_indices.specs.declared.indices.Indices.TheFolds.{fold-roll-Reading}
use Rattle.value_indices.specs.declared.indices.Indices.TheOpen as W
use Rattle.value_indices.specs.declared.indices.Indices.TheOpen.{Reading-F}
use Rattle.value_indices.specs.declared.indices.Reading.{Reading, out-Reading, roll-Reading}
use Rattle.value_indices.specs.declared.indices.Indices.TheViews.{roll-out-Reading}
use Rattle.value_indices.specs.declared.notes.Fact.{Fact}
use Rattle.value_indices.specs.Steps.{Walk, bind, give}
use Rattle.pattern_leaves.specs.Settings.{Scope}
use Rattle.call_arguments.specs.Aims.{aimed, is_hole_form}
use Rattle.call_arguments.specs.Holes.{has_hole, type_holed, value_holed}
use Rattle.call_arguments.specs.declared.aims.Aim.{Aim}
use Rattle.call_arguments.specs.declared.aims.Aim.TheVariants as Aims
use Rattle.call_notes.specs.Calls.{part_owed}
use Rattle.call_notes.specs.Ends.{never_value, settled}
use Rattle.expression_steps.specs.Expressions.{kind_walk, return_owed, return_walk}
use Rattle.expression_steps.specs.Parts.{Part}
use Rattle.checked_meaning.specs.Checked.{checked}
use Rattle.checked_meaning.specs.Items.{Item}
use Rattle.value_laws.specs.Known.{Point}
use Rattle.value_laws.proofs.Steps.{same}
use Rattle.soundness_steps.proofs.Points.{agree_on, later_on}
use Rattle.soundness_steps.specs.Works.{Scene, here}
use Rattle.soundness_steps.specs.States.{IsAnswer}
use Rattle.soundness_steps.specs.Steps.{Beside, Walks, well_returned, well_stopped}
use Rattle.soundness_steps.specs.Values.{AimSteady, Belongs, Comes, Has, IsMet, IsWanted}
use Rattle.soundness_steps.proofs.Steps.{binds, given_back, walks_then}
use Rattle.soundness_forms.specs.Forms.{Fine, FitsSuffice}
use Rattle.soundness_forms.specs.Worlds.{AnswerIs, Surrounds}
use Rattle.soundness_forms.proofs.Basics.{then_walks, wanted_on, wrongs}
use Rattle.soundness_forms.proofs.Casts.{no_guard}

-- a type without a hole is wanted as it is
hole_form : (r : Reading) (x : Reading-F Indices Reading) → out-Reading r ≡ x → has_hole r ≡ false → is_hole_form x ≡ false
hole_form r (W.Of t is rs) e h = refl
hole_form r (W.Widened i) e h = refl
hole_form r (W.Parts rs) e h = refl
hole_form r W.Hole e h =
    sym (ap has_hole (sym (roll-out-Reading r) ∙ ap roll-Reading e) ∙ fold-roll-Reading Bool Bool value_holed type_holed W.Hole) ∙ h

pub aimed_is : (aim : Reading → Aim) (r : Reading) → has_hole r ≡ false → aimed aim r ≡ aim r
aimed_is aim r h = ap (λ b. if b then Aims.Free else aim r) (hole_form r (out-Reading r) refl h)

-- what is owed of a part that is given a type: it belongs, as it owes further in or here
pub part_belongs : FitsSuffice → (q : Scene) {n : ℕ} {f : Point n} {facts : List Fact} (nested : Bool) (place : Place) (i : Indices) (r : Reading) (v : Value)
    → Has q.set q.work f i v → IsWanted q.set q.work f r → IsMet q.set q.work f (Aims.Given r) nested v
    → Walks q n f facts (part_owed (here q) nested place i r) (λ m g t. Belongs q.set q.work g r v)
part_belongs fit q true place i r v h st met = given_back tt met
part_belongs fit q {n} {f} {facts} false place i r v h st met = fit q n f facts place i r v h st

module _ (fit : FitsSuffice) (q : Scene) (w : World Item) (scope : Scope) (place : Place) (k : ℕ) (aim : Aim) (p : Part) (ra : Run Item Item) (cast : Bool)
    (h : Fine q w cast false p ra) where
  -- what never gives anything
  pub leaves : {n : ℕ} {f : Point n} {facts : List Fact} {walk : Walk Indices} {c : Run Item Item} (never_ends : Bool)
      → Beside q n f facts walk c (λ m g i x. ⊥)
      → Beside q n f facts (bind (bind walk (settled (here q) place aim)) (λ i. give i)) c (λ m g i x. Comes q.set q.work g false false never_ends aim i x)
  leaves never_ends b = then_walks (λ i. give i) {Holds = λ m g i x. ⊥} (then_walks (settled (here q) place aim) b (λ m g fs i x l e. absurd e))
      (λ m g fs i x l e. absurd e)

  -- a value of the type of the result is returned
  returns_well : {m : ℕ} {g : Point m} {fs : List Fact} {A : Type 0} (walk : Walk A) (v : Value) (t : Closed) → q.answer ≡ Some t
      → belongs q.set.around.types v t ≡ true → Beside q m g fs walk (returns v) (λ j d a (x : Item). ⊥)
  returns_well walk v t e b = record {
    run = λ now stands met ok.
        well_returned v now (subst (λ o. IsAnswer q.set.around.types o v) (sym e) b) ok;
  }

  returned_by : (r : Option Reading) (t : Option Closed) {n : ℕ} {f : Point n} {facts : List Fact} → q.answer ≡ t → Surrounds q w f scope → AnswerIs q w f r t
      → Beside q n f facts (return_walk place p (here q) scope r) (ra then λ x. returns x.val) (λ m g i (x : Item). ⊥)
  returned_by None t e there a = wrongs place (ra then λ x. returns x.val)
  returned_by (Some r) None e there a = absurd a
  returned_by (Some r) (Some t) {n} {f} {facts} e there a =
      let wanted : IsWanted q.set q.work f r = ((λ g b. a.0 g b ∙ sym (a.0 f.integers (same f))), a.1) in
      binds (return_owed (here q) place p.is_nested r) (λ x. returns x.val)
      (h.walks q.names q.may_fall no_guard n f facts scope (aimed Aims.Given r) there
      (subst (AimSteady q.set q.work f) (sym (aimed_is Aims.Given r a.1)) wanted)) (λ m g fs i x l c.
      walks_then (λ u. never_value) (part_belongs fit q p.is_nested place i r x.val c.has (wanted_on q.set q.work r l wanted)
      (subst (λ d. IsMet q.set q.work g d p.is_nested x.val) (aimed_is Aims.Given r a.1) c.met)) (λ m2 g2 fs2 u l2 b.
      returns_well never_value x.val t e
      (ap (belongs q.set.around.types x.val) (sym (a.0 g2.integers (agree_on (later_on l l2) (same g2)))) ∙ b g2.integers (same g2))))

  pub return_fine : {n : ℕ} {f : Point n} {facts : List Fact} → Surrounds q w f scope
      → Beside q n f facts (kind_walk place k K.Return (p ∷ []) (here q) scope aim)
      (kind_meaning (checked q.set.around.types q.cases) w place k K.Return (ra ∷ [])) (λ m g i x. Comes q.set q.work g false false true aim i x)
  return_fine there = leaves true (returned_by q.result q.answer refl there there.answer)

  -- ---- the run stops

  pub exit_fine : {n : ℕ} {f : Point n} {facts : List Fact} → Surrounds q w f scope
      → Beside q n f facts (kind_walk place k K.Exit (p ∷ []) (here q) scope aim)
      (kind_meaning (checked q.set.around.types q.cases) w place k K.Exit (ra ∷ [])) (λ m g i x. Comes q.set q.work g false false true aim i x)
  exit_fine {n} {f} {facts} there =
      leaves true (binds (λ i. never_value) (λ x. stops (Exit place)) (h.walks q.names q.may_fall no_guard n f facts scope Aims.Free there tt)
      (λ m g fs i x l c. record { run = λ now stands met ok. well_stopped (Exit place) now }))
