-- Spots that may be parts of a tuple: what is left to owe of a value is owed with all others', and holds before any of them is written.
use Rattle.std.proofs.Common.{◌≡◌, ◌++◌, ℕ, Bool, true, List, [], ◌∷◌, refl}
use Rattle.sail_base.specs.declared.place.Place.{Place}
use Rattle.sail_types.specs.declared.values.Value.{Value}
use Rattle.sail_core.specs.Making.{World, nothing}
use Rattle.sail_core.specs.Run.{Ended, Run, ◌then◌}
use Rattle.sail_core.specs.Targets as Runs
use Rattle.value_indices.specs.Steps.{Walk, bind, give, scoped}
use Rattle.value_indices.specs.declared.indices.Indices.{Indices}
use Rattle.value_indices.specs.declared.indices.Indices.TheVariants as I
use Rattle.value_indices.specs.declared.indices.Reading.{Reading}
use Rattle.value_indices.specs.declared.notes.Fact.{Fact}
use Rattle.value_fits.specs.Fitting.{says}
use Rattle.value_fits.specs.declared.fitted.Fitted.{Fitted}
use Rattle.call_arguments.specs.Aims.{aimed}
use Rattle.call_arguments.specs.declared.aims.Aim.TheVariants as Aims
use Rattle.call_notes.specs.Ends.{wrong_value}
use Rattle.expression_forms.specs.Spots as Walked
use Rattle.expression_forms.specs.Spots.{Spot, both_left, both_wrote, each_written, wrong_write, wrote}
use Rattle.checked_meaning.specs.Items.{Item}
use Rattle.fitting_laws.specs.Fitting.{Suffices}
use Rattle.fitting_laws.proofs.Joining.{also_suffice, says_so, suffice_as}
use Rattle.value_laws.specs.Belonging.{Integers, is_of, standing}
use Rattle.value_laws.specs.Known.{Agree, Point}
use Rattle.soundness_steps.specs.Points.{Later}
use Rattle.soundness_steps.proofs.Points.{agree_on, behind, later_on}
use Rattle.soundness_steps.specs.Works.{Scene}
use Rattle.soundness_steps.specs.Steps.{Beside, EndsWell, Grows, well_given, well_no, well_returned, well_stopped, well_thrown}
use Rattle.soundness_steps.specs.Values.{Is, IsMet}
use Rattle.soundness_steps.proofs.Steps.{binds, given_back, rests}
use Rattle.soundness_forms.proofs.Basics.{is_on, met_on, then_walks, wrong_walks}
use Rattle.soundness_forms.proofs.Growth.{grows_bind, grows_give, grows_scoped, grows_wrong}
use Rattle.soundness_forms.proofs.Leaves.{wrong_node}
use Rattle.soundness_parts.proofs.Taken.{z}
use Rattle.soundness_targets.proofs.Moments.{Front, stands_before}
use Rattle.soundness_targets.proofs.Setters.{unit_is}
use Rattle.soundness_targets.proofs.TupleTypes.{AllTypes, Typed, typed_on}

-- ---- a scope around a walk beside its run

pub ends_before : {q : Scene} {n : ℕ} {f : Point n} {m : ℕ} {fs gs : List Fact} {B : Type 0} {Holds : Point m → B → Type 0} {e : Ended Item B} → Front gs fs
    → EndsWell q f m fs Holds e → EndsWell q f m gs Holds e
ends_before {q} {fs = fs} {gs = gs} h (well_given x now r ok) =
    well_given x now (record { point = r.point; later = r.later; stands = stands_before q gs fs h r.stands; holds = r.holds }) ok
ends_before h (well_no now a ok) = well_no now a ok
ends_before h (well_returned v now b ok) = well_returned v now b ok
ends_before h (well_thrown v now b ok) = well_thrown v now b ok
ends_before h (well_stopped cause now) = well_stopped cause now

pub scope_around : {q : Scene} {n : ℕ} {f : Point n} {facts : List Fact} {A B : Type 0} {w : Walk A} {c : Run Item B}
    {Holds : (m : ℕ) → Point m → A → B → Type 0} → Grows w → Beside q n f facts w c Holds → Beside q n f facts (scoped w) c Holds
unfolding scoped
scope_around {n = n} {facts = facts} grows b = record {
  run = λ now stands met ok. ends_before (grows.more facts n, grows.extends facts n) (b.run now stands met ok);
}

-- ---- values that have to belong to types

abbrev pub Dues : Type 0
Dues = List (Reading × Value)

module _ (q : Scene) where
  abbrev pub AllDue : Integers → Dues → Type 0
  AllDue c [] = Unit {0}
  AllDue c (d ∷ ds) = (is_of q.set.around.types (standing q.set.past c) q.work.types d.0 d.1 ≡ true) × AllDue c ds

  due_both : (c : Integers) (ds es : Dues) → AllDue c ds → AllDue c es → AllDue c (ds ++ es)
  due_both c [] es h k = k
  due_both c (d ∷ ds) es h k = (h.0, due_both c ds es h.1 k)

  due_front : (c : Integers) (ds es : Dues) → AllDue c (ds ++ es) → AllDue c ds
  due_front c [] es h = tt
  due_front c (d ∷ ds) es h = (h.0, due_front c ds es h.1)

  due_behind : (c : Integers) (ds es : Dues) → AllDue c (ds ++ es) → AllDue c es
  due_behind c [] es h = h
  due_behind c (d ∷ ds) es h = due_behind c ds es h.1

  -- ---- what may be written

  abbrev pub Meets : {m : ℕ} → Point m → Spot → Bool → Indices → Item → Type 0
  Meets g s nested i u = Is q.set q.work g i u × IsMet q.set q.work g (aimed Aims.Given s.typ) nested u.val

  pub meets_on : {n m : ℕ} {f : Point n} {g : Point m} (s : Spot) (nested : Bool) (i : Indices) (u : Item) → Later f g → Meets f s nested i u
      → Meets g s nested i u
  meets_on s nested i u l h = (is_on l h.0, met_on q.set q.work (aimed Aims.Given s.typ) nested u.val l h.1)

  -- a spot that a value may be written to, from a point on
  pub record Writable {n : ℕ} (f : Point n) (s : Spot) (sr : Runs.Spot Item) : Type 0 where
    pub typed : Typed q f s.typ
    -- what is left to owe, and what that says
    pub left : Bool → Indices → ℕ → Fitted
    pub left_is : (nested : Bool) (i : Indices) (facts : List Fact) (m : ℕ) → (s.write nested i facts m).value.left ≡ left nested i
    pub grows : (nested : Bool) (i : Indices) → Grows (s.write nested i)
    pub dues : Bool → Indices → Item → Dues
    pub same_dues : (m : ℕ) (g : Point m) → Later f g → (nested : Bool) (i : Indices) (u : Item) → Meets g s nested i u → (c d : Integers) → Agree g c
        → Agree g d → AllDue c (dues nested i u) → AllDue d (dues nested i u)
    pub suffice : (m : ℕ) (g : Point m) → Later f g → (nested : Bool) (i : Indices) (u : Item) → Meets g s nested i u → (k : ℕ) (p : Point k) → Later g p
        → Suffices q.set.past k p (left nested i k) (λ c. AllDue c (dues nested i u))
    pub writes : (m : ℕ) (g : Point m) (fs : List Fact) → Later f g → (nested : Bool) (i : Indices) (u : Item) → Meets g s nested i u
        → ((c : Integers) → Agree g c → AllDue c (dues nested i u))
        → Beside q m g fs (s.write nested i) (sr.write u) (λ d p a r. a.left ≡ left nested i)

  -- ---- several

  abbrev pub AllWritable : {n : ℕ} → Point n → List Spot → List (Runs.Spot Item) → Type 0
  AllWritable f [] [] = Unit {0}
  AllWritable f (s ∷ ss) (sr ∷ srs) = Writable f s sr × AllWritable f ss srs
  AllWritable f ss srs = ⊥

  -- as many items as values; where there are more or fewer of them than spots, nothing is said of those
  abbrev pub AllMeet : {m : ℕ} → Point m → List Spot → Bool → List Indices → List Item → Type 0
  AllMeet g ss nested [] [] = Unit {0}
  AllMeet g [] nested (i ∷ is) (u ∷ us) = Unit {0}
  AllMeet g (s ∷ ss) nested (i ∷ is) (u ∷ us) = Meets g s nested i u × AllMeet g ss nested is us
  AllMeet g ss nested is us = ⊥

  pub all_meet_on : {n m : ℕ} {f : Point n} {g : Point m} (ss : List Spot) (nested : Bool) (is : List Indices) (us : List Item) → Later f g
      → AllMeet f ss nested is us → AllMeet g ss nested is us
  all_meet_on [] nested [] [] l h = tt
  all_meet_on (s ∷ ss) nested [] [] l h = tt
  all_meet_on [] nested (i ∷ is) (u ∷ us) l h = tt
  all_meet_on (s ∷ ss) nested (i ∷ is) (u ∷ us) l h = (meets_on s nested i u l h.0, all_meet_on ss nested is us l h.1)
  all_meet_on [] nested [] (u ∷ us) l h = absurd h
  all_meet_on [] nested (i ∷ is) [] l h = absurd h
  all_meet_on (s ∷ ss) nested [] (u ∷ us) l h = absurd h
  all_meet_on (s ∷ ss) nested (i ∷ is) [] l h = absurd h

  pub all_types : {n : ℕ} (f : Point n) (ss : List Spot) (srs : List (Runs.Spot Item)) → AllWritable f ss srs → AllTypes q f ss
  all_types f [] [] h = tt
  all_types f (s ∷ ss) (sr ∷ srs) h = (h.0.typed, all_types f ss srs h.1)
  all_types f [] (sr ∷ srs) h = absurd h
  all_types f (s ∷ ss) [] h = absurd h

  module _ {n : ℕ} (f : Point n) where
    abbrev pub all_left : (ss : List Spot) (srs : List (Runs.Spot Item)) → AllWritable f ss srs → Bool → List Indices → ℕ → Fitted
    all_left [] [] h nested is = says []
    all_left (s ∷ ss) (sr ∷ srs) h nested [] = says []
    all_left (s ∷ ss) (sr ∷ srs) h nested (i ∷ is) = both_left (h.0.left nested i) (all_left ss srs h.1 nested is)
    all_left [] (sr ∷ srs) h nested is = absurd h
    all_left (s ∷ ss) [] h nested is = absurd h

    abbrev pub all_dues : (ss : List Spot) (srs : List (Runs.Spot Item)) → AllWritable f ss srs → Bool → List Indices → List Item → Dues
    all_dues (s ∷ ss) (sr ∷ srs) h nested (i ∷ is) (u ∷ us) = h.0.dues nested i u ++ all_dues ss srs h.1 nested is us
    all_dues ss srs h nested is us = []

    pub all_left_is : (place : Place) (ss : List Spot) (srs : List (Runs.Spot Item)) (h : AllWritable f ss srs) (nested : Bool) (is : List Indices)
        (facts : List Fact) (m : ℕ) → (each_written place ss nested is facts m).value.left ≡ all_left ss srs h nested is
    unfolding bind give scoped
    all_left_is place [] [] h nested [] facts m = refl
    all_left_is place [] [] h nested (i ∷ is) facts m = refl
    all_left_is place (s ∷ ss) (sr ∷ srs) h nested [] facts m = refl
    all_left_is place (s ∷ ss) (sr ∷ srs) h nested (i ∷ is) facts m =
        λ j. both_left (h.0.left_is nested i facts m j) (all_left_is place ss srs h.1 nested is facts (s.write nested i facts m).next j)
    all_left_is place [] (sr ∷ srs) h nested is facts m = absurd h
    all_left_is place (s ∷ ss) [] h nested is facts m = absurd h

    pub all_grow : (place : Place) (ss : List Spot) (srs : List (Runs.Spot Item)) → AllWritable f ss srs → (nested : Bool) (is : List Indices)
        → Grows (each_written place ss nested is)
    all_grow place [] [] h nested [] = grows_give (wrote (says []) I.Unit)
    all_grow place [] [] h nested (i ∷ is) = grows_bind (wrong_value place) Walked.gives (grows_wrong place) (λ j. grows_give (wrote (says []) j))
    all_grow place (s ∷ ss) (sr ∷ srs) h nested [] = grows_bind (wrong_value place) Walked.gives (grows_wrong place) (λ j. grows_give (wrote (says []) j))
    all_grow place (s ∷ ss) (sr ∷ srs) h nested (i ∷ is) =
        grows_bind (scoped (s.write nested i)) (λ a. bind (each_written place ss nested is) (λ b. give (both_wrote a b)))
        (grows_scoped (s.write nested i) (h.0.grows nested i)) (λ a.
        grows_bind (each_written place ss nested is) (λ b. give (both_wrote a b)) (all_grow place ss srs h.1 nested is) (λ b. grows_give (both_wrote a b)))
    all_grow place [] (sr ∷ srs) h nested is = absurd h
    all_grow place (s ∷ ss) [] h nested is = absurd h

    -- what all have left to owe says what each has
    pub all_suffice : (ss : List Spot) (srs : List (Runs.Spot Item)) (h : AllWritable f ss srs) (m : ℕ) (g : Point m) → Later f g → (nested : Bool)
        (is : List Indices) (us : List Item) → AllMeet g ss nested is us → (k : ℕ) (p : Point k) → Later g p
        → Suffices q.set.past k p (all_left ss srs h nested is k) (λ c. AllDue c (all_dues ss srs h nested is us))
    all_suffice [] [] h m g l nested [] [] meet k p lp = says_so [] (λ c a s. tt)
    all_suffice [] [] h m g l nested (i ∷ is) (u ∷ us) meet k p lp = says_so [] (λ c a s. tt)
    all_suffice (s ∷ ss) (sr ∷ srs) h m g l nested [] [] meet k p lp = says_so [] (λ c a s2. tt)
    all_suffice (s ∷ ss) (sr ∷ srs) h m g l nested (i ∷ is) (u ∷ us) meet k p lp =
        suffice_as (also_suffice (all_left ss srs h.1 nested is) (h.0.suffice m g l nested i u meet.0 k p lp) (λ p2 lp2.
        all_suffice ss srs h.1 m g l nested is us meet.1 _ p2 (later_on lp (behind lp2)))) (λ c a both_due.
        due_both c (h.0.dues nested i u) (all_dues ss srs h.1 nested is us) both_due.0 both_due.1)
    all_suffice [] [] h m g l nested [] (u ∷ us) meet k p lp = absurd meet
    all_suffice [] [] h m g l nested (i ∷ is) [] meet k p lp = absurd meet
    all_suffice (s ∷ ss) (sr ∷ srs) h m g l nested [] (u ∷ us) meet k p lp = absurd meet
    all_suffice (s ∷ ss) (sr ∷ srs) h m g l nested (i ∷ is) [] meet k p lp = absurd meet
    all_suffice [] (sr ∷ srs) h m g l nested is us meet k p lp = absurd h
    all_suffice (s ∷ ss) [] h m g l nested is us meet k p lp = absurd h

    pub all_same_dues : (ss : List Spot) (srs : List (Runs.Spot Item)) (h : AllWritable f ss srs) (m : ℕ) (g : Point m) → Later f g → (nested : Bool)
        (is : List Indices) (us : List Item) → AllMeet g ss nested is us → (c d : Integers) → Agree g c → Agree g d
        → AllDue c (all_dues ss srs h nested is us) → AllDue d (all_dues ss srs h nested is us)
    all_same_dues (s ∷ ss) (sr ∷ srs) h m g l nested (i ∷ is) (u ∷ us) meet c d a b due =
        let es = h.0.dues nested i u in
        let more = all_dues ss srs h.1 nested is us in
        due_both d es more (h.0.same_dues m g l nested i u meet.0 c d a b (due_front c es more due))
        (all_same_dues ss srs h.1 m g l nested is us meet.1 c d a b (due_behind c es more due))
    all_same_dues [] [] h m g l nested is us meet c d a b due = tt
    all_same_dues (s ∷ ss) (sr ∷ srs) h m g l nested [] us meet c d a b due = tt
    all_same_dues (s ∷ ss) (sr ∷ srs) h m g l nested (i ∷ is) [] meet c d a b due = tt
    all_same_dues [] (sr ∷ srs) h m g l nested is us meet c d a b due = absurd h
    all_same_dues (s ∷ ss) [] h m g l nested is us meet c d a b due = absurd h

    -- ---- all are written

    module _ (w : World Item) (place : Place) where
      pub all_written : (ss : List Spot) (srs : List (Runs.Spot Item)) (h : AllWritable f ss srs) (m : ℕ) (g : Point m) (fs : List Fact) → Later f g
          → (nested : Bool) (is : List Indices) (us : List Item) → AllMeet g ss nested is us
          → ((c : Integers) → Agree g c → AllDue c (all_dues ss srs h nested is us))
          → Beside q m g fs (each_written place ss nested is) (Runs.writes (z q) srs us)
          (λ d p a r. (a.left ≡ all_left ss srs h nested is) × ((a.answer ≡ I.Unit) × Is q.set q.work p I.Unit r))
      all_written [] [] h m g fs l nested [] [] meet due =
          rests (nothing (z q)) (given_back (wrote (says []) I.Unit) (refl, (refl, unit_is q w g)))
      all_written (s ∷ ss) (sr ∷ srs) h m g fs l nested (i ∷ is) (u ∷ us) meet due =
          let es = h.0.dues nested i u in
          let more = all_dues ss srs h.1 nested is us in
          binds (λ a. bind (each_written place ss nested is) (λ b. give (both_wrote a b))) (λ y. Runs.writes (z q) srs us)
          (scope_around (h.0.grows nested i) (h.0.writes m g fs l nested i u meet.0 (λ c a. due_front c es more (due c a)))) (λ d p gs a y l2 e.
          then_walks (λ b. give (both_wrote a b))
          (all_written ss srs h.1 d p gs (later_on l l2) nested is us (all_meet_on ss nested is us l2 meet.1)
          (λ c b. due_behind c es more (due c (agree_on l2 b)))) (λ d2 p2 hs b r l3 k.
          given_back (both_wrote a b) ((λ j. both_left (e j) (k.0 j)), (refl, k.1.1))))
      -- more of either
      all_written [] [] h m g fs l nested (i ∷ is) (u ∷ us) meet due =
          wrong_node Walked.gives (Runs.writes (z q) [] (u ∷ us)) (wrong_walks place)
      all_written (s ∷ ss) (sr ∷ srs) h m g fs l nested [] [] meet due =
          wrong_node Walked.gives (Runs.writes (z q) (sr ∷ srs) []) (wrong_walks place)
      all_written [] [] h m g fs l nested [] (u ∷ us) meet due = absurd meet
      all_written [] [] h m g fs l nested (i ∷ is) [] meet due = absurd meet
      all_written (s ∷ ss) (sr ∷ srs) h m g fs l nested [] (u ∷ us) meet due = absurd meet
      all_written (s ∷ ss) (sr ∷ srs) h m g fs l nested (i ∷ is) [] meet due = absurd meet
      all_written [] (sr ∷ srs) h m g fs l nested is us meet due = absurd h
      all_written (s ∷ ss) [] h m g fs l nested is us meet due = absurd h

-- ---- no target

wrong_left : (at : Place) (facts : List Fact) (m : ℕ) → (wrong_write at facts m).value.left ≡ says []
unfolding bind give
wrong_left at facts m = refl

pub wrong_writable : (q : Scene) {n : ℕ} (f : Point n) (at : Place) (sr : Runs.Spot Item) → Writable q f (Walked.wrong_spot at) sr
wrong_writable q f at sr = record {
  typed = (true, refl);
  left = λ nested i. says [];
  left_is = λ nested i facts m. wrong_left at facts m;
  grows = λ nested i. grows_bind (wrong_value at) Walked.gives (grows_wrong at) (λ j. grows_give (wrote (says []) j));
  dues = λ nested i u. [];
  same_dues = λ m g l nested i u meet c d a b due. tt;
  suffice = λ m g l nested i u meet k p lp. says_so [] (λ c a s. tt);
  writes = λ m g fs l nested i u meet due. wrong_node Walked.gives (sr.write u) (wrong_walks at);
}

-- a spot is as writable later
pub writable_on : (q : Scene) {n m : ℕ} {f : Point n} {g : Point m} (s : Spot) (sr : Runs.Spot Item) → Later f g → Writable q f s sr → Writable q g s sr
writable_on q s sr l h = record {
  typed = typed_on q s.typ l h.typed;
  left = h.left;
  left_is = h.left_is;
  grows = h.grows;
  dues = h.dues;
  same_dues = λ m g l2. h.same_dues m g (later_on l l2);
  suffice = λ m g l2. h.suffice m g (later_on l l2);
  writes = λ m g fs l2. h.writes m g fs (later_on l l2);
}
