-- How a value may be written to a spot that is a part of a tuple: what is read behind the value is foreseen.
use Rattle.std.proofs.Common.{◌≡◌, ◌∙◌, ℕ, Bool, List, [], ◌++◌, sym, ap, subst}
use Rattle.std.proofs.lemmas.List.{append_assoc}
use Rattle.sail_core.specs.Run.{Now}
use Rattle.sail_core.specs.Targets as Runs
use Rattle.value_indices.specs.declared.indices.Indices.{Indices}
use Rattle.value_indices.specs.declared.notes.Fact.{Fact}
use Rattle.value_fits.specs.declared.fitted.Fitted.{Fitted}
use Rattle.expression_forms.specs.Spots.{Spot}
use Rattle.checked_meaning.specs.Items.{Item}
use Rattle.fitting_laws.specs.Fitting.{Suffices}
use Rattle.value_laws.specs.Belonging.{Integers}
use Rattle.value_laws.specs.Known.{Agree, Point}
use Rattle.soundness_steps.specs.Points.{Later}
use Rattle.soundness_steps.proofs.Points.{later_on}
use Rattle.soundness_steps.specs.Works.{Scene}
use Rattle.soundness_steps.specs.States.{Sound}
use Rattle.soundness_steps.specs.Steps.{Grows}
use Rattle.soundness_steps.proofs.Steps.{means}
use Rattle.soundness_targets.proofs.Moments.{At, Front, at_last}
use Rattle.soundness_targets.proofs.TupleTypes.{Typed, typed_on}
use Rattle.soundness_targets.proofs.TupleWrites.{AllDue, Meets, Writable}

-- facts that are still in force further on
pub front_then : (earlier fs gs : List Fact) → Front earlier fs → Front fs gs → Front earlier gs
front_then earlier fs gs h k = (h.0 ++ k.0, k.1 ∙ ap (λ xs. xs ++ k.0) h.1 ∙ append_assoc earlier h.0 k.0)

-- what a spot leaves to owe
abbrev pub left_of : Spot → Bool → Indices → ℕ → Fitted
left_of s nested i = (s.write nested i [] 0).value.left

module _ (q : Scene) where
  pub record Mode {n : ℕ} (f : Point n) : Type 1 where
    -- what is foreseen
    pub V : Type 0
    pub Ok : V → Type 0
    pub Current : V → Now Item → Type 0
    pub first : (now : Now Item) → Sound q now → (v : V) × Ok v × Current v now
    -- what holds of the spot from where it is found on
    pub Ready : V → (m : ℕ) → Point m → List Fact → Spot → Runs.Spot Item → Type 0
    pub on : (v : V) (m d : ℕ) (g : Point m) (h : Point d) (fs gs : List Fact) (s : Spot) (sr : Runs.Spot Item) → Later g h → Front fs gs → Ready v m g fs s sr
        → Ready v d h gs s sr
    pub typed : (v : V) (m : ℕ) (g : Point m) (fs : List Fact) (s : Spot) (sr : Runs.Spot Item) → Ready v m g fs s sr → Typed q g s.typ
    pub grows : (v : V) (m : ℕ) (g : Point m) (fs : List Fact) (s : Spot) (sr : Runs.Spot Item) → Ready v m g fs s sr → (nested : Bool) (i : Indices)
        → Grows (s.write nested i)
    pub left_same : (v : V) (m : ℕ) (g : Point m) (fs : List Fact) (s : Spot) (sr : Runs.Spot Item) → Ready v m g fs s sr → (nested : Bool) (i : Indices)
        (facts : List Fact) (k : ℕ) → (s.write nested i facts k).value.left ≡ left_of s nested i
    -- what that says of a value
    pub Due : (v : V) (m : ℕ) (g : Point m) (fs : List Fact) (s : Spot) (sr : Runs.Spot Item) → Ready v m g fs s sr → Bool → Indices → Item → Integers → Type 0
    pub due_on : (v : V) (m d : ℕ) (g : Point m) (h : Point d) (fs gs : List Fact) (s : Spot) (sr : Runs.Spot Item) (l : Later g h) (e : Front fs gs)
        (rd : Ready v m g fs s sr) (nested : Bool) (i : Indices) (u : Item) (c : Integers) → Due v m g fs s sr rd nested i u c
        → Due v d h gs s sr (on v m d g h fs gs s sr l e rd) nested i u c
    pub suffice : (v : V) (m : ℕ) (g : Point m) (fs : List Fact) (s : Spot) (sr : Runs.Spot Item) (rd : Ready v m g fs s sr) (nested : Bool) (i : Indices)
        (u : Item) → Meets q g s nested i u → (k : ℕ) (p : Point k) → Later g p
        → Suffices q.set.past k p (left_of s nested i k) (λ c. Due v m g fs s sr rd nested i u c)
    -- it is written at a moment
    pub write : (v : V) (m : ℕ) (g : Point m) (fs : List Fact) (s : Spot) (sr : Runs.Spot Item) (rd : Ready v m g fs s sr) (nested : Bool) (i : Indices)
        (u : Item) → Meets q g s nested i u → (there : Integers) → Agree g there → Due v m g fs s sr rd nested i u there → (now : Now Item) → Current v now
        → Sound q now → At q m g fs (s.write nested i) now.opened (sr.write u now) (λ d p a r. Unit {0})

  -- ---- one of which nothing is foreseen

  module _ {n : ℕ} (f : Point n) where
    abbrev WasWritable : (m : ℕ) → Point m → Spot → Runs.Spot Item → Type 0
    WasWritable m g s sr = (b : ℕ) × (p : Point b) × Later p g × Writable q p s sr

    abbrev pub plain_mode : Mode f
    plain_mode = record {
      V = Unit {0};
      Ok = λ v. Unit {0};
      Current = λ v now. Unit {0};
      first = λ now ok. (tt, tt, tt);
      Ready = λ v m g fs s sr. WasWritable m g s sr;
      on = λ v m d g h fs gs s sr l e rd. (rd.0, rd.1, later_on rd.2 l, rd.3);
      typed = λ v m g fs s sr rd. typed_on q s.typ rd.2 rd.3.typed;
      grows = λ v m g fs s sr rd nested i. rd.3.grows nested i;
      left_same = λ v m g fs s sr rd nested i facts k. rd.3.left_is nested i facts k ∙ sym (rd.3.left_is nested i [] 0);
      Due = λ v m g fs s sr rd nested i u c. AllDue q c (rd.3.dues nested i u);
      due_on = λ v m d g h fs gs s sr l e rd nested i u c due. due;
      suffice = λ v m g fs s sr rd nested i u meet k p l.
          subst (λ (left : ℕ → Fitted). Suffices q.set.past k p (left k) (λ c. AllDue q c (rd.3.dues nested i u))) (sym (rd.3.left_is nested i [] 0))
          (rd.3.suffice m g rd.2 nested i u meet k p l);
      write = λ v m g fs s sr rd nested i u meet there agree due now current ok.
          at_last now (means (λ d p a r l e. tt)
          (rd.3.writes m g fs rd.2 nested i u meet (λ c a. rd.3.same_dues m g rd.2 nested i u meet there c agree a due))) ok;
    }
