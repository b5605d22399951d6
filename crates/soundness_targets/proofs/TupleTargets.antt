-- A tuple of targets, with what stands on its right.
use Rattle.std.proofs.Common.{◌≡◌, ℕ, Bool, List, [], ◌∷◌, Option, Some, None, refl, sym, subst}
use Rattle.sail_base.specs.declared.place.Place.{Place}
use Rattle.sail_core.specs.Making.{World}
use Rattle.sail_core.specs.Run.{Run, ◌then◌}
use Rattle.sail_core.specs.Targets as Runs
use Rattle.sail_core.specs.Targets.{target_meaning}
use Rattle.sail_core.specs.declared.targets.TargetKind.TheVariants as T
use Rattle.value_indices.specs.Steps.{Walk, bind, give, owe, scoped}
use Rattle.value_indices.specs.declared.indices.Indices.{Indices, out-Indices}
use Rattle.value_indices.specs.declared.indices.Indices.TheOpen as W
use Rattle.value_indices.specs.declared.indices.Indices.TheOpen.{Indices-F}
use Rattle.value_indices.specs.declared.indices.Indices.TheVariants as I
use Rattle.value_indices.specs.declared.indices.Reading.{Reading}
use Rattle.value_indices.specs.declared.notes.Fact.{Fact}
use Rattle.value_fits.specs.Fitting.{owe_fit}
use Rattle.value_fits.specs.declared.fitted.Fitted.{Fitted}
use Rattle.pattern_leaves.specs.Settings.{Scope}
use Rattle.expression_forms.specs.Spots.{Spot, Wrote, each_written, owed_answer, parts_nested, tuple_write, written_by}
use Rattle.expression_steps.specs.Parts.{Part}
use Rattle.expression_steps.specs.Targets.{SpottedAll, Spotting, each_spot, kind_spot, then_assigned, tuple_spotted}
use Rattle.checked_meaning.specs.Checked.{Noted}
use Rattle.checked_meaning.specs.Items.{Item}
use Rattle.value_laws.specs.Belonging.{Integers}
use Rattle.value_laws.specs.Known.{Agree, Point}
use Rattle.value_laws.proofs.Steps.{same}
use Rattle.soundness_steps.specs.Points.{Later}
use Rattle.soundness_steps.proofs.Points.{agree_on, later_on}
use Rattle.soundness_steps.specs.Works.{Scene, here}
use Rattle.soundness_steps.specs.Steps.{AllMet, Beside, Stands, Walks}
use Rattle.soundness_steps.specs.Values.{Is}
use Rattle.soundness_steps.proofs.Steps.{binds, given_back, grown, grown_later, met_front, runs_as, stands_on, walks_on}
use Rattle.soundness_forms.specs.Forms.{AllFine, FitsSuffice}
use Rattle.soundness_forms.specs.Registers.{RegistersClosed}
use Rattle.soundness_forms.specs.Worlds.{Surrounds}
use Rattle.soundness_forms.proofs.Basics.{is_on, then_walks}
use Rattle.soundness_forms.proofs.Worlds.{surrounds_on}
use Rattle.soundness_fits.proofs.Owing.{suffices_walks}
use Rattle.soundness_values.specs.Named.{TypesNarrow}
use Rattle.soundness_parts.proofs.SliceSteps.{under}
use Rattle.soundness_parts.proofs.Taken.{z}
use Rattle.soundness_targets.proofs.Foreseen.{foresees}
use Rattle.soundness_targets.proofs.MemberSpots.{a_tuple, form_dues, form_grows, form_left, form_left_is, form_same, form_suffices, run_tuple, tuple_written}
use Rattle.soundness_targets.proofs.Members.{FoundAll}
use Rattle.soundness_targets.proofs.OneTarget.{Goes, at_once}
use Rattle.soundness_targets.proofs.Pieces.{walk_regrouped}
use Rattle.soundness_targets.proofs.Rights.{Right, RightFine, Splits}
use Rattle.soundness_targets.proofs.TupleTypes.{tuple_typed, typed_steady}
use Rattle.soundness_targets.proofs.TupleWrites.{AllDue, AllWritable, Meets, all_types}

-- ---- what its writes put in force isn't in force behind them

pub all_facts : (at : Place) (ss : List Spot) (nested : Bool) (is : List Indices) (facts : List Fact) (m : ℕ)
    → (each_written at ss nested is facts m).facts ≡ facts
unfolding bind give owe scoped
all_facts at [] nested [] facts m = refl
all_facts at [] nested (i ∷ is) facts m = refl
all_facts at (s ∷ ss) nested [] facts m = refl
all_facts at (s ∷ ss) nested (i ∷ is) facts m = all_facts at ss nested is facts (s.write nested i facts m).next

form_facts : (at : Place) (ss : List Spot) (nested : Bool) (form : Indices-F Indices Reading) (facts : List Fact) (m : ℕ)
    → (tuple_write at ss nested form facts m).facts ≡ facts
unfolding bind give owe
form_facts at ss nested (W.Tuple is) facts m = all_facts at ss (parts_nested ss nested) is facts m
form_facts at ss nested W.Never facts m = refl
form_facts at ss nested W.Unit facts m = refl
form_facts at ss nested W.Bit facts m = refl
form_facts at ss nested (W.Bits t) facts m = refl
form_facts at ss nested (W.Integer t) facts m = refl
form_facts at ss nested (W.Truth c) facts m = refl
form_facts at ss nested W.String facts m = refl
form_facts at ss nested (W.List r) facts m = refl
form_facts at ss nested (W.Vector t r) facts m = refl
form_facts at ss nested (W.Named u js rs) facts m = refl
form_facts at ss nested (W.Variable j) facts m = refl

-- ---- a value that is written to a tuple

module _ (q : Scene) (w : World Item) {n : ℕ} (f : Point n) (at : Place) (k : ℕ) (ss : List Spot) (srs : List (Runs.Spot Item)) (all : AllWritable q f ss srs)
    (place : Place) {m : ℕ} (g : Point m) (fs : List Fact) (l : Later f g) (nested : Bool) (i : Indices) (u : Item) where
  abbrev spot : Spot
  spot = a_tuple q w f at k ss srs all

  abbrev left : ℕ → Fitted
  left = form_left q w f at k ss srs all nested (out-Indices i)

  abbrev AllGiven : Type 0
  AllGiven = (c : Integers) → Agree g c → AllDue q c (form_dues q w f at k ss srs all nested (out-Indices i) u)

  module _ (meet : Meets q g spot nested i u) where
    -- what all have left to owe holds before any of them is written
    owed_before_it : (noted : Noted) → Stands q.set q.work noted g fs
        → AllMet q (owed_answer place (spot.write nested i fs m).value (spot.write nested i fs m).facts (spot.write nested i fs m).next).notes → AllGiven
    unfolding bind
    owed_before_it noted stands met =
        let after = spot.write nested i fs m in
        let onward = (form_grows q w f at k ss srs all nested (out-Indices i)).onward fs m in
        let owed : AllMet q (owe_fit place after.value.left after.facts after.next).notes =
        met_front q (owe_fit place after.value.left after.facts after.next).notes _ met in
        let said : AllMet q (owe_fit place left fs after.next).notes =
        subst (λ (gs : List Fact). AllMet q (owe_fit place left gs after.next).notes) (form_facts at ss nested (out-Indices i) fs m)
        (subst (λ (x : ℕ → Fitted). AllMet q (owe_fit place x after.facts after.next).notes)
        (form_left_is q w f at k ss srs all nested (out-Indices i) fs m) owed) in
        let r = (suffices_walks {q = q} {n = after.next} {f = grown g onward} {facts = fs} place left
        (form_suffices q w f at k ss srs all m g l nested i u meet (out-Indices i) refl after.next (grown g onward) (grown_later g onward))).go noted
        (stands_on (grown_later g onward) stands) said in
        let at_end = later_on (grown_later g onward) r.later in
        λ c a. form_same q w f at k ss srs all m g l nested i u meet (out-Indices i) refl r.point.integers c (agree_on at_end (same r.point)) a
        (r.holds r.point.integers (same r.point))

    -- nothing more is done behind its writes
    owed_after : {d : ℕ} {p : Point d} {gs : List Fact} (a : Wrote) (r : Item) → Later g p
        → (a.left ≡ left) × ((a.answer ≡ I.Unit) × Is q.set q.work p I.Unit r)
        → Walks q d p gs (owed_answer place a) (λ d2 p2 j. Is q.set q.work p2 j r)
    owed_after {d} {p} {gs} a r l2 e =
        walks_on (λ t. give a.answer)
        (subst (λ (x : ℕ → Fitted). Walks q d p gs (owe_fit place x)
        (λ d2 p2 t. (c : Integers) → Agree p2 c → AllDue q c (form_dues q w f at k ss srs all nested (out-Indices i) u))) (sym e.0)
        (suffices_walks {q = q} place left (form_suffices q w f at k ss srs all m g l nested i u meet (out-Indices i) refl d p l2))) (λ d2 p2 hs t l3 x.
        given_back a.answer (subst (λ j. Is q.set q.work p2 j r) (sym e.1.0) (is_on l3 e.1.1)))

    pub tuple_writes : Beside q m g fs (written_by place spot nested i) ((run_tuple q w f at k ss srs all).write u) (λ d p j r. Is q.set q.work p j r)
    tuple_writes =
        foresees {P = AllGiven} (spot.write nested i) (owed_answer place) owed_before_it (λ due.
        then_walks (owed_answer place) (tuple_written q w f at k ss srs all m g fs l nested i u meet due) (λ d p gs a r l2 e. owed_after a r l2 e))

-- ---- the target

module _ (fit : FitsSuffice) (q : Scene) (w : World Item) (narrow : TypesNarrow q.set.around.types) (closed : RegistersClosed q.set) (place : Place)
    (scope : Scope) (at : Place) (k : ℕ) (ts : List Spotting) (trs : List (Runs.Spotting Item (Runs.Spot Item)))
    (finds : (n : ℕ) (f : Point n) (facts : List Fact) (ps : List Part) (us : List (Run Item Item)) → AllFine q w ps us → Surrounds q w f scope
    → Beside q n f facts (each_spot ts (here q) scope ps) (Runs.spots_of trs us) (λ m g o r. FoundAll q w g o r)) where
  module _ (right : Right) (right_fine : RightFine q w place scope right) (further : Spot → List Part → Walk Indices) (splits : Splits further right) where
    found_by : {m : ℕ} (g : Point m) (fs : List Fact) → Surrounds q w g scope → (o : Option SpottedAll) (r : Runs.Spotted Item (List (Runs.Spot Item)))
        → FoundAll q w g o r
        → Beside q m g fs (bind (give (tuple_spotted at k o)) (then_assigned further)) (right.run r.left then (Runs.tuple_spot (z q) k r.found).write)
        (λ d p j u. Is q.set q.work p j u)
    found_by g fs there None r e = absurd e
    found_by g fs there (Some all) r e =
        at_once fit q w narrow closed place scope right right_fine further splits fs all.left r.left e.0 there
        (a_tuple q w g at k all.spots r.found e.1) (Runs.tuple_spot (z q) k r.found)
        (typed_steady q g (a_tuple q w g at k all.spots r.found e.1).typ (tuple_typed q g all.spots (all_types q g all.spots r.found e.1)))
        (λ d p gs nested i y l is met. tuple_writes q w g at k all.spots r.found e.1 place p gs l nested i y (is, met))

  pub tuple_target : Goes fit q w narrow closed place scope (kind_spot at k T.Tuple ts) (target_meaning (z q) w at k T.Tuple trs)
  tuple_target right right_fine further splits n f facts ps us fine there =
      walk_regrouped (each_spot ts (here q) scope ps) (λ o. give (tuple_spotted at k o)) (then_assigned further)
      (runs_as (λ now. sym (under (Runs.spots_of trs us now) _ _ (λ r. right.run r.left then r.found.write) (λ r n1. refl)))
      (binds (λ o. bind (give (tuple_spotted at k o)) (then_assigned further)) (λ r. right.run r.left then (Runs.tuple_spot (z q) k r.found).write)
      (finds n f facts ps us fine there)
      (λ m g fs o r l e. found_by right right_fine further splits g fs (surrounds_on q w scope l there) o r e)))
