-- `x = e` and `R = e` beside their runs.
use Rattle.std.proofs.Common.{◌≡◌, ℕ, Bool, true, false, List, [], ◌∷◌, if◌then◌else◌, refl, sym, ap, ◌∙◌, subst}
use Rattle.sail_base.specs.declared.place.Place.{Place}
use Rattle.sail_core.specs.Making.{made}
use Rattle.sail_core.specs.Run.{Run, gives, ◌then◌}
use Rattle.sail_core.specs.declared.tree.Giver.TheVariants as By
use Rattle.value_indices.specs.declared.indices.Indices.{Indices}
use Rattle.value_indices.specs.declared.indices.Indices.TheOpen as W
use Rattle.value_indices.specs.declared.indices.Indices.TheOpen.{Reading-F}
use Rattle.value_indices.specs.declared.indices.Indices.TheVariants as I
use Rattle.value_indices.specs.declared.indices.Indices.TheViews.{out-roll-Reading, roll-out-Reading}
use Rattle.value_indices.specs.declared.indices.Reading.{Reading, fold-roll-Reading, out-Reading, roll-Reading}
use Rattle.value_indices.specs.declared.indices.Reading.TheVariants as R
use Rattle.value_indices.specs.declared.notes.Fact.{Fact}
use Rattle.value_indices.specs.declared.notes.Made.TheVariants as Makes
use Rattle.value_indices.specs.Steps.{Walk, bind, give, note}
use Rattle.value_fits.specs.Fitting.{fits, owe_fit, says}
use Rattle.call_arguments.specs.Aims.{aimed, is_hole_form}
use Rattle.call_arguments.specs.Holes.{has_hole, type_holed, value_holed}
use Rattle.call_arguments.specs.declared.aims.Aim.TheVariants as Aims
use Rattle.call_notes.specs.Ends.{fits_unless}
use Rattle.call_notes.specs.Noted.{node_made, numbers_given, numbers_noted}
use Rattle.expression_forms.specs.Nodes.{form_made, put}
use Rattle.expression_forms.specs.Spots.{Wrote, named_spot, owed_answer, written_by, wrote}
use Rattle.checked_meaning.specs.Checked.{Noted, checked}
use Rattle.checked_meaning.specs.Items.{Item}
use Rattle.value_laws.specs.Known.{Point}
use Rattle.fitting_laws.proofs.Joining.{says_so}
use Rattle.soundness_steps.specs.Points.{Later}
use Rattle.soundness_steps.proofs.Points.{later_on}
use Rattle.soundness_steps.specs.Works.{Scene, here}
use Rattle.soundness_steps.specs.Noted.{variables_given, with_given}
use Rattle.soundness_steps.specs.Steps.{AllMet, Beside, Stands, Walks}
use Rattle.soundness_steps.specs.Values.{Belongs, Is, IsMet, IsWanted}
use Rattle.soundness_steps.proofs.Steps.{binds, given_back, gives_numbers, makes, met_front, rests, runs_on, walks_mean, walks_then}
use Rattle.soundness_forms.specs.Forms.{FitsSuffice}
use Rattle.soundness_forms.proofs.Basics.{has_there, is_on, then_walks, wanted_on}
use Rattle.soundness_forms.proofs.Giving.{gives_all}
use Rattle.soundness_fits.proofs.Owing.{suffices_walks}
use Rattle.soundness_targets.proofs.Foreseen.{fits_before, foresees}

-- a type without a hole is noted as it is
pub hole_made : (r : Reading) (i : Indices) (x : Reading-F Indices Reading) → out-Reading r ≡ x → has_hole r ≡ false → form_made x r i ≡ Makes.ByType r
hole_made r i (W.Of t is rs) e h = refl
hole_made r i (W.Widened j) e h = refl
hole_made r i (W.Parts rs) e h = refl
hole_made r i W.Hole e h =
    let b : true ≡ false = sym (ap has_hole (sym (roll-out-Reading r) ∙ ap roll-Reading e) ∙ fold-roll-Reading Bool Bool value_holed type_holed W.Hole) ∙ h in
    absurd (cc)

module _ (fit : FitsSuffice) (q : Scene) (place : Place) (k : ℕ) (name : List ℕ) (r : Reading) where
  -- what is left to owe
  abbrev pub left : Bool → Indices → Wrote
  left nested i = wrote (fits_unless nested (here q) i r) I.Unit

  abbrev pub puts : Bool → Indices → Walk Wrote
  puts nested i = bind (put k (i ∷ []) r i) (λ t. give (left nested i))

  module _ {n : ℕ} {f : Point n} (nested : Bool) (i : Indices) (x : Item) (h : Is q.set q.work f i x)
      (met : IsMet q.set q.work f (Aims.Given r) nested x.val) (wanted : IsWanted q.set q.work f r) where
    -- that it belongs is owed behind it, or further in
    belongs_by : (facts : List Fact) (b : Bool) → nested ≡ b → (noted : Noted) → Stands q.set q.work noted f facts
        → AllMet q (owed_answer place (puts nested i facts n).value (puts nested i facts n).facts (puts nested i facts n).next).notes
        → Belongs q.set q.work f r x.val
    unfolding bind give note
    belongs_by facts true e noted stands all = subst (λ b. IsMet q.set q.work f (Aims.Given r) b x.val) e met
    belongs_by facts false e noted stands all =
        fits_before fit q f facts place i r x.val (variables_given i) h.has wanted noted stands
        (met_front q (owe_fit place (fits q.set.around.types i r) (with_given facts (variables_given i)) n).notes []
        (subst (λ c. AllMet q (owed_answer place (left c i) (with_given facts (variables_given i)) n).notes) e
        (subst (λ s. AllMet q (owed_answer place (left nested i) s.facts s.next).notes) (gives_all i facts n) all)))

    pub put_fine : {facts : List Fact} → Belongs q.set q.work f r x.val
        → Beside q n f facts (puts nested i) (made (checked q.set.around.types q.cases) k (x ∷ []) x.val)
        (λ m g a y. (a ≡ left nested i) × (y.val ≡ x.val))
    put_fine {facts} is_so =
        then_walks (λ t. give (left nested i))
        (subst (λ m. Beside q n f facts (bind (node_made k (i ∷ []) m) (λ t. numbers_noted k i)) (made (checked q.set.around.types q.cases) k (x ∷ []) x.val)
        (λ d g a y. y.val ≡ x.val)) (sym (hole_made r i (out-Reading r) refl wanted.1))
        (binds (λ t. numbers_noted k i) (λ y. (checked q.set.around.types q.cases).note (By.Node k) x.val then λ t. gives y)
        (makes k (i ∷ []) (Makes.ByType r) (x ∷ []) x.val (h.typ, tt) is_so) (λ m g fs t y l e.
        noted_fine m g fs y l e.0))) (λ m g fs a y l e. given_back (left nested i) (refl, e))
      where
        noted_fine : (m : ℕ) (g : Point m) (fs : List Fact) (y : Item) → Later f g → y.val ≡ x.val
            → Beside q m g fs (numbers_noted k i) ((checked q.set.around.types q.cases).note (By.Node k) x.val then λ t. gives y) (λ d p a u. u.val ≡ x.val)
        noted_fine m g fs y l e =
            runs_on (λ t. gives y) (gives_numbers (By.Node k) i x.val (numbers_given i) (gives_all i) (has_there (is_on l h).has)) (λ d p gs t u l2 s.
            rests y (given_back t e))

    owed_walks : {m : ℕ} {g : Point m} {fs : List Fact} → Later f g → Walks q m g fs (owe_fit place (fits_unless nested (here q) i r)) (λ d p t. Unit {0})
    owed_walks {m} {g} {fs} l = by nested
      where
        by : (b : Bool) → Walks q m g fs (owe_fit place (fits_unless b (here q) i r)) (λ d p t. Unit {0})
        by true = walks_mean (λ d p t e. tt) (suffices_walks {q = q} {Then = λ c. Unit {0}} place (says []) (says_so [] (λ c a s. tt)))
        by false = walks_mean (λ d p t e. tt) (fit q m g fs place i r x.val (is_on l h).has (wanted_on q.set q.work r l wanted))

    -- the value is made at the name's own number, and what sets the name keeps what is known
    pub written_fine : {facts : List Fact} (set : Item → Run Item Item)
        → ((m : ℕ) (g : Point m) (fs : List Fact) (y : Item) → Later f g → y.val ≡ x.val → Belongs q.set q.work f r y.val
        → Beside q m g fs (give I.Unit) (set y) (λ d p j u. Is q.set q.work p j u))
        → Beside q n f facts (written_by place (named_spot (here q) place k name r) nested i)
        (made (checked q.set.around.types q.cases) k (x ∷ []) x.val then set) (λ m g j u. Is q.set q.work g j u)
    written_fine {facts} set sets =
        foresees {P = Belongs q.set q.work f r x.val} (puts nested i) (owed_answer place) (belongs_by facts nested refl) (λ is_so.
        binds (owed_answer place) set (put_fine is_so) (λ m g fs a y l e.
        subst (λ b. Beside q m g fs (owed_answer place b) (set y) (λ d p j u. Is q.set q.work p j u)) (sym e.0)
        (walks_then (λ t. give I.Unit) (owed_walks l) (λ d p gs t l2 u.
        sets d p gs y (later_on l l2) e.1 (subst (λ v. Belongs q.set q.work f r v) (sym e.1) is_so)))))

-- nothing is wanted of no type
pub none_aimed : aimed Aims.Given R.Hole ≡ Aims.Free
none_aimed = ap (λ x. if is_hole_form x then Aims.Free else Aims.Given R.Hole) (ap out-Reading (sym R.rolls-Hole) ∙ out-roll-Reading W.Hole)
