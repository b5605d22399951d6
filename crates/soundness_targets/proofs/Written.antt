-- How values are written to a spot that is a part of a tuple, at a moment: where what is read then was foreseen.
use Rattle.std.proofs.Common.{arith, ◌≡◌, ℕ, Bool, List, [], ◌≤◌, sym}
use Rattle.std.proofs.lemmas.List.{append-nil}
use Rattle.sail_core.specs.Run.{Now}
use Rattle.sail_core.specs.Targets as Runs
use Rattle.value_indices.specs.declared.indices.Indices.{Indices}
use Rattle.value_indices.specs.declared.notes.Fact.{Fact}
use Rattle.expression_forms.specs.Spots.{Spot}
use Rattle.checked_meaning.specs.Checked.{Noted}
use Rattle.checked_meaning.specs.Items.{Item}
use Rattle.fitting_laws.specs.Fitting.{Suffices}
use Rattle.value_laws.specs.Belonging.{Integers}
use Rattle.value_laws.specs.Known.{Agree, Point}
use Rattle.soundness_steps.specs.Points.{Later}
use Rattle.soundness_steps.proofs.Points.{no_later}
use Rattle.soundness_steps.specs.Works.{Scene}
use Rattle.soundness_steps.specs.States.{Sound}
use Rattle.soundness_steps.specs.Steps.{AllMet, EndsWell, Grows, Stands}
use Rattle.soundness_steps.proofs.Steps.{well_on}
use Rattle.soundness_targets.proofs.Behind.{ends_means}
use Rattle.soundness_targets.proofs.Modes.{Mode, left_of}
use Rattle.soundness_targets.proofs.Moments.{Front}
use Rattle.soundness_targets.proofs.Trees.{Ends, There, Trees, both_paths, ends_each}
use Rattle.soundness_targets.proofs.TupleTypes.{Typed}
use Rattle.soundness_targets.proofs.TupleWrites.{Meets, ends_before}

pub all_on : (fs : List Fact) → Front fs fs
all_on fs = ([], sym (append-nil fs))

-- what holds later too
abbrev pub Stays : ((m : ℕ) → Point m → Type 0) → Type 0
Stays Keep = (m d : ℕ) (g : Point m) (h : Point d) → Later g h → Keep m g → Keep d h

-- what is owed of all says so at any moment
abbrev pub Says : (q : Scene) (last : ℕ) (fs : List Fact) {m : ℕ} → Point m → (Integers → Type 0) → Type 0
Says q last fs g Due =
    (e : ℕ) (p : Point e) → Later g p → e ≤ last → (noted : Noted) → Stands q.set q.work noted p fs → (there : Integers) × Agree p there × Due there

module _ (q : Scene) where
  pub record Written {n : ℕ} (f : Point n) (s : Spot) : Type 1 where
    -- what is foreseen
    pub T : Trees
    -- what the run has found, and the spot that it is there
    pub P : Type 0
    pub view : P → Runs.Spot Item
    -- what holds of it from where it is found on
    pub Ready : T.Path → (m : ℕ) → Point m → List Fact → P → Type 0
    pub on : (v : T.Path) (m d : ℕ) (g : Point m) (h : Point d) (fs gs : List Fact) (p : P) → Later g h → Front fs gs → Ready v m g fs p → Ready v d h gs p
    pub typed : (v : T.Path) (m : ℕ) (g : Point m) (fs : List Fact) (p : P) → Ready v m g fs p → Typed q g s.typ
    pub grows : (v : T.Path) (m : ℕ) (g : Point m) (fs : List Fact) (p : P) → Ready v m g fs p → (nested : Bool) (i : Indices) → Grows (s.write nested i)
    pub left_same : (v : T.Path) (m : ℕ) (g : Point m) (fs : List Fact) (p : P) → Ready v m g fs p → (nested : Bool) (i : Indices) (facts : List Fact) (k : ℕ)
        → (s.write nested i facts k).value.left ≡ left_of s nested i
    -- what that says of a value
    pub Due : (v : T.Path) (m : ℕ) (g : Point m) (fs : List Fact) (p : P) → Ready v m g fs p → Bool → Indices → Item → Integers → Type 0
    pub due_on : (v : T.Path) (m d : ℕ) (g : Point m) (h : Point d) (fs gs : List Fact) (p : P) (l : Later g h) (e : Front fs gs) (rd : Ready v m g fs p)
        (nested : Bool) (i : Indices) (u : Item) (c : Integers) → Due v m g fs p rd nested i u c → Due v d h gs p (on v m d g h fs gs p l e rd) nested i u c
    pub suffice : (v : T.Path) (m : ℕ) (g : Point m) (fs : List Fact) (p : P) (rd : Ready v m g fs p) (nested : Bool) (i : Indices) (u : Item)
        → Meets q g s nested i u → (k : ℕ) (c : Point k) → Later g c
        → Suffices q.set.past k c (left_of s nested i k) (λ d. Due v m g fs p rd nested i u d)
    -- it is written in a scope, where others are foreseen too
    pub writes : (nested : Bool) (i : Indices) (gs : List Fact) (d : ℕ) (p : P) (u : Item) (last : ℕ) (U : Trees)
        (Keep : U.Path → (m : ℕ) → Point m → Type 0) → ((r : U.Path) → Stays (Keep r)) → (s.write nested i gs d).next ≤ last
        → AllMet q (s.write nested i gs d).notes → (now : Now Item) → Sound q now
        → (both_paths T U).Tree (λ v. There q f d gs (λ g. (rd : Ready v.0 d g gs p) × Meets q g s nested i u
        × Says q last gs g (λ k. Due v.0 d g gs p rd nested i u k) × Keep v.1 d g) now)
        → Ends q U (λ r x after. There q f (s.write nested i gs d).next gs (λ g. Keep r (s.write nested i gs d).next g) after) ((view p).write u now)

  -- ---- one that is read once

  module _ {n : ℕ} (f : Point n) (s : Spot) (mode : Mode q f) where
    abbrev pub paths : Trees
    paths = record {
      Path = mode.V;
      Tree = λ P. (v : mode.V) × mode.Ok v × ((x : mode.V) → mode.Ok x → P x);
      map = λ say t. (t.0, t.1, λ x ok. say x (t.2 x ok));
      pick = λ t. (t.0, t.2 t.0 t.1);
    }

    module _ (nested : Bool) (i : Indices) (gs : List Fact) (d : ℕ) (p : Runs.Spot Item) (u : Item) (last : ℕ) (U : Trees)
        (Keep : U.Path → (m : ℕ) → Point m → Type 0) (stays : (r : U.Path) → Stays (Keep r)) (le : (s.write nested i gs d).next ≤ last)
        (met : AllMet q (s.write nested i gs d).notes)
        (now : Now Item) (ok : Sound q now) where
      abbrev pub Known : mode.V → (r : U.Path) → Point d → Type 0
      Known v r g = (rd : mode.Ready v d g gs s p) × Meets q g s nested i u × Says q last gs g (λ k. mode.Due v d g gs s p rd nested i u k) × Keep r d g

      abbrev pub last_there : ℕ
      last_there = (s.write nested i gs d).next

      pub low : d ≤ last_there → d ≤ last
      low a = omega (arith, a, le)

      pub written_well : (v : mode.V) → mode.Current v now → (r : U.Path) → There q f d gs (Known v r) now
          → EndsWell q f last_there gs (λ g x. Keep r last_there g) (p.write u now)
      written_well v current r there =
          let g = there.point in
          let h = there.holds in
          let grows = mode.grows v d g gs s p h.0 nested i in
          let due = h.2 d g (no_later g) (low (grows.onward gs d)) now.opened there.stands in
          well_on there.later (ends_before (grows.more gs d, grows.extends gs d) (ends_means (λ c x l e. stays r d last_there g c l h.3)
          ((mode.write v d g gs s p h.0 nested i u h.1 due.0 due.1 due.2 now current ok).go there.stands met)))

      pub written_once : (both_paths paths U).Tree (λ v. There q f d gs (Known v.0 v.1) now)
          → Ends q U (λ r x after. There q f last_there gs (λ g. Keep r last_there g) after) (p.write u now)
      written_once tree =
          let v = mode.first now ok in
          ends_each q U (tree.2 v.0 v.1) f last_there gs (λ r g x. Keep r last_there g) (p.write u now) (λ r there. written_well v.0 v.2 r there)

    abbrev pub momentary : Written f s
    momentary = record {
      T = paths;
      P = Runs.Spot Item;
      view = λ sr. sr;
      Ready = λ v m g fs sr. mode.Ready v m g fs s sr;
      on = λ v m d g h fs gs sr l e rd. mode.on v m d g h fs gs s sr l e rd;
      typed = λ v m g fs sr rd. mode.typed v m g fs s sr rd;
      grows = λ v m g fs sr rd nested i. mode.grows v m g fs s sr rd nested i;
      left_same = λ v m g fs sr rd nested i facts k. mode.left_same v m g fs s sr rd nested i facts k;
      Due = λ v m g fs sr rd nested i u c. mode.Due v m g fs s sr rd nested i u c;
      due_on = λ v m d g h fs gs sr l e rd nested i u c due. mode.due_on v m d g h fs gs s sr l e rd nested i u c due;
      suffice = λ v m g fs sr rd nested i u meet k c l. mode.suffice v m g fs s sr rd nested i u meet k c l;
      writes = λ nested i gs d p u last U Keep stays le met now ok tree. written_once nested i gs d p u last U Keep stays le met now ok tree;
    }
