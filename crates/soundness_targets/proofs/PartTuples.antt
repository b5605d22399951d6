-- A tuple of targets, parts of names among them, with what stands on its right.
use Rattle.std.proofs.Common.{◌≡◌, ◌∙◌, ℕ, Bool, true, false, List, [], Option, Some, None, refl, sym, ap, subst, arith}
use Rattle.sail_base.specs.declared.place.Place.{Place}
use Rattle.sail_core.specs.Making.{World}
use Rattle.sail_core.specs.Patterns.{components}
use Rattle.sail_core.specs.Run.{Ended, Now, Run, goes_on, needs, ◌then◌}
use Rattle.sail_core.specs.Targets as Runs
use Rattle.sail_core.specs.Targets.{target_meaning}
use Rattle.sail_core.specs.Values.{parts_in}
use Rattle.sail_core.specs.declared.targets.TargetKind.TheVariants as T
use Rattle.value_indices.specs.Steps.{Walk, bind, give}
use Rattle.value_indices.specs.declared.indices.Indices.{Indices, out-Indices}
use Rattle.value_indices.specs.declared.indices.Indices.TheOpen as W
use Rattle.value_indices.specs.declared.indices.Indices.TheOpen.{Indices-F}
use Rattle.value_indices.specs.declared.indices.Indices.TheVariants as I
use Rattle.value_indices.specs.declared.indices.Reading.{Reading}
use Rattle.value_indices.specs.declared.notes.Fact.{Fact}
use Rattle.value_fits.specs.Fitting.{owe_fit}
use Rattle.value_fits.specs.declared.fitted.Fitted.{Fitted}
use Rattle.pattern_leaves.specs.Settings.{Scope}
use Rattle.call_arguments.specs.Aims.{aimed}
use Rattle.call_arguments.specs.declared.aims.Aim.TheVariants as Aims
use Rattle.call_notes.specs.Ends.{is_never_form}
use Rattle.expression_forms.specs.Spots as Walked
use Rattle.expression_forms.specs.Spots.{Spot, Wrote, each_written, owed_answer, parts_nested, tuple_spot, tuple_write, written_by}
use Rattle.expression_steps.specs.Parts.{Part}
use Rattle.expression_steps.specs.Targets.{SpottedAll, Spotting, each_spot, kind_spot, spotted_all, then_assigned, tuple_spotted}
use Rattle.checked_meaning.specs.Items.{Item}
use Rattle.fitting_laws.specs.Fitting.{Suffices}
use Rattle.fitting_laws.proofs.Joining.{suffice_as}
use Rattle.value_laws.specs.Known.{Point}
use Rattle.value_laws.proofs.Steps.{same}
use Rattle.soundness_steps.specs.Points.{Later}
use Rattle.soundness_steps.proofs.Points.{agree_on, later_on, no_later}
use Rattle.soundness_steps.specs.Works.{Scene, here}
use Rattle.soundness_steps.specs.States.{Sound}
use Rattle.soundness_steps.specs.Steps.{AllMet, Beside, EndsWell, Walks}
use Rattle.soundness_steps.specs.Values.{Is, IsMet}
use Rattle.soundness_steps.proofs.Steps.{given_back, grown, grown_later, met_behind, met_front, runs_as, stands_on, walks_mean, walks_on, well_on}
use Rattle.soundness_forms.specs.Forms.{AllFine, FitsSuffice}
use Rattle.soundness_forms.specs.Registers.{RegistersClosed}
use Rattle.soundness_forms.specs.Worlds.{Surrounds}
use Rattle.soundness_forms.proofs.Basics.{is_on}
use Rattle.soundness_forms.proofs.Parts.{not_never}
use Rattle.soundness_forms.proofs.Worlds.{surrounds_on}
use Rattle.soundness_fits.proofs.Owing.{suffices_walks}
use Rattle.soundness_values.specs.Named.{TypesNarrow}
use Rattle.soundness_parts.proofs.SliceSteps.{under}
use Rattle.soundness_parts.proofs.Taken.{z}
use Rattle.soundness_targets.proofs.Behind.{ends_means}
use Rattle.soundness_targets.proofs.FoundTargets.{EachFound, FindsEach}
use Rattle.soundness_targets.proofs.ModeLists.{Modes, all_left, wrong_there}
use Rattle.soundness_targets.proofs.Moments.{front_on}
use Rattle.soundness_targets.proofs.OneTarget.{Goes}
use Rattle.soundness_targets.proofs.Pieces.{walk_regrouped}
use Rattle.soundness_targets.proofs.Rights.{IsWritten, Right, RightFine, spot_first, spot_last, spot_same}
use Rattle.soundness_targets.proofs.TargetGrowth.{grow_of}
use Rattle.soundness_targets.proofs.Trees.{Ends, There, ends_each, ends_map, ends_then, ends_well, one_path}
use Rattle.soundness_targets.proofs.TupleShares.{Shared, items_of, shared, shared_items}
use Rattle.soundness_targets.proofs.TupleTargets.{all_facts}
use Rattle.soundness_targets.proofs.TupleTypes.{tuple_typed, typed_steady}
use Rattle.soundness_targets.proofs.TupleWrites.{AllMeet}
use Rattle.soundness_targets.proofs.Written.{Says, Stays, all_on}

-- the parts that are left behind all
abbrev spotted_left : Option SpottedAll → List Part
spotted_left None = []
spotted_left (Some all) = all.left

given_first : {A C : Type 0} (a : A) (next : A → Walk C) → bind (give a) next ≡ next a
unfolding bind give
given_first a next = refl

module _ (fit : FitsSuffice) (q : Scene) (w : World Item) (narrow : TypesNarrow q.set.around.types) (closed : RegistersClosed q.set) (place : Place)
    (scope : Scope) (at : Place) (k : ℕ) (ts : List Spotting) (trs : List (Runs.Spotting Item (Runs.Spot Item)))
    (each : (n : ℕ) (f : Point n) → Surrounds q w f scope → FindsEach q w scope ts trs f) where
  module _ (right : Right) (right_fine : RightFine q w place scope right) {n : ℕ} (f : Point n) (facts : List Fact) (ps : List Part) (us : List (Run Item Item))
      (fine : AllFine q w ps us) (there : Surrounds q w f scope) where
    abbrev parts : EachFound q w scope ts trs f n facts ps
    parts = each n f there n facts ps

    abbrev spots : List Spot
    spots = parts.spots

    abbrev modes : Modes q w f spots
    modes = parts.modes

    abbrev the_spot : Spot
    the_spot = tuple_spot at k spots

    -- ---- the walk

    abbrev each_walk : Walk (Option SpottedAll)
    each_walk = each_spot ts (here q) scope ps

    abbrev m1 : ℕ
    m1 = (each_walk facts n).next

    abbrev fs1 : List Fact
    fs1 = (each_walk facts n).facts

    abbrev found_there : Option SpottedAll
    found_there = (each_walk facts n).value

    abbrev left : List Part
    left = spotted_left found_there

    abbrev first_walk : Walk Indices
    first_walk = right.first the_spot left

    abbrev m2 : ℕ
    m2 = (first_walk fs1 m1).next

    abbrev fs2 : List Fact
    fs2 = (first_walk fs1 m1).facts

    abbrev value_there : Indices
    value_there = (first_walk fs1 m1).value

    abbrev nested : Bool
    nested = right.nested left

    abbrev inside : Bool
    inside = parts_nested spots nested

    -- how the assignment ends beside a walk
    abbrev Answer : Walk Indices → List Fact → ℕ → Ended Item Item → Type 0
    Answer walk fs m e =
        Ends q one_path (λ p x now. There q f (walk fs m).next (walk fs m).facts (λ g. Is q.set q.work g (walk fs m).value x) now) e

    abbrev GoesAt : Walk Indices → List Fact → ℕ → Ended Item Item → Type 0
    GoesAt walk fs m e = AllMet q (walk fs m).notes → Answer walk fs m e

    -- ---- what is found, and its value

    abbrev FoundThere : Runs.Spotted Item modes.P → modes.T.Path → Point m1 → Type 0
    FoundThere r v h = (ls : List Part) × (found_there ≡ spotted_all spots ls) × AllFine q w ls r.left × modes.Ready v m1 h fs1 r.found

    abbrev Valued : Runs.Spotted Item modes.P → Item → modes.T.Path → Point m2 → Type 0
    Valued r y v g =
        modes.Ready v m2 g fs2 r.found × Is q.set q.work g value_there y × IsMet q.set q.work g (aimed Aims.Given the_spot.typ) nested y.val
        × (right.last the_spot left value_there ≡ written_by place the_spot nested value_there)

    module _ (r : Runs.Spotted Item modes.P) (now : Now Item) (ok : Sound q now) (tree : modes.T.Tree (λ v. There q f m1 fs1 (FoundThere r v) now))
        (met : AllMet q (first_walk fs1 m1).notes) where
      same_left : (ls : List Part) → found_there ≡ spotted_all spots ls → ls ≡ left
      same_left ls e = ap spotted_left (sym e)

      nested_so : (y : Item) {g : Point m2} (v : modes.T.Path) → modes.Ready v m2 g fs2 r.found → IsWritten q w place scope right g the_spot left value_there y
          → Valued r y v g
      nested_so y {g} v ready h = (
        ready,
        h.2,
        subst (λ b. IsMet q.set q.work g (aimed Aims.Given the_spot.typ) b y.val) h.4 h.3,
        subst (λ b. right.last the_spot left value_there ≡ written_by place the_spot b value_there) h.4 h.1,
      )

      value_ends : (v : modes.T.Path) → There q f m1 fs1 (FoundThere r v) now → EndsWell q f m2 fs2 (λ g y. Valued r y v g) (right.run r.left now)
      value_ends v h =
          let g = h.point in
          let e = h.holds in
          let fine2 : AllFine q w left r.left = subst (λ ls. AllFine q w ls r.left) (same_left e.0 e.1) e.2 in
          let goes : Beside q m1 g fs1 first_walk (right.run r.left) (λ m p i y. IsWritten q w place scope right p the_spot left i y) =
          right_fine.goes m1 g fs1 the_spot left r.left fine2 (surrounds_on q w scope h.later there)
          (typed_steady q g the_spot.typ (tuple_typed q g spots (modes.types v m1 g fs1 r.found e.3))) in
          well_on h.later
          (ends_means (λ c y l d. nested_so y v
          (modes.on v m1 m2 g c fs1 fs2 r.found l
          (front_on fs1 fs1 m1 first_walk (right_fine.grows the_spot left (grow_of q w (here q) scope left r.left fine2)) (all_on fs1)) e.3) d)
          (goes.run now h.stands met ok))

      values : Ends q modes.T (λ v y after. There q f m2 fs2 (Valued r y v) after) (right.run r.left now)
      values = ends_each q modes.T tree f m2 fs2 (λ v g y. Valued r y v g) (right.run r.left now) value_ends

    -- ---- it is written

    module _ (r : Runs.Spotted Item modes.P) (y : Item) (now : Now Item) (ok : Sound q now)
        (tree : modes.T.Tree (λ v. There q f m2 fs2 (Valued r y v) now)) where
      picked : (v : modes.T.Path) × There q f m2 fs2 (Valued r y v) now
      picked = modes.T.pick tree

      abbrev write : Run Item Item
      write = (Runs.tuple_spot (z q) k (modes.views r.found)).write y

      abbrev items : List Item
      items = items_of q y (parts_in y.val)

      module _ (is : List Indices) (form_is : out-Indices value_there ≡ W.Tuple is) where
        abbrev each_one : Walk Wrote
        each_one = each_written at spots inside is

        abbrev m3 : ℕ
        m3 = (each_one fs2 m2).next

        abbrev all : ℕ → Fitted
        all = all_left spots inside is

        abbrev answer : Wrote
        answer = (each_one fs2 m2).value

        abbrev Keep : (m : ℕ) → Point m → Type 0
        Keep m g = (d : ℕ) (p : Point d) → Later g p → Suffices q.set.past d p (all d) (λ c. Unit {0})

        stays : Stays Keep
        stays m d g h l keep e p l2 = keep e p (later_on l l2)

        shared_by : {g : Point m2} {v : modes.T.Path} → Valued r y v g → Shared q spots g nested is y
        shared_by {g} h = shared q spots g nested value_there is y form_is h.1 h.2

        all_meet : {g : Point m2} {v : modes.T.Path} → Valued r y v g → AllMeet q g spots inside is items
        all_meet {g} h = shared_items q spots g nested is y (shared_by h)

        same_writes : {g : Point m2} {v : modes.T.Path} → Valued r y v g → Runs.writes (z q) (modes.views r.found) items now ≡ write now
        same_writes h =
            subst (λ o. Runs.writes (z q) (modes.views r.found) (items_of q y o) now
            ≡ (needs o then λ vs. Runs.writes (z q) (modes.views r.found) (components (z q) y 0 vs)) now) (sym (shared_by h).are_parts) refl

        module _ (owed : AllMet q (owe_fit place all fs2 m3).notes) where
          abbrev Ready : modes.T.Path → Point m2 → Type 0
          Ready v g = (rd : modes.Ready v m2 g fs2 r.found) × AllMeet q g spots inside is items
              × Says q m3 fs2 g (λ c. modes.Due v m2 g fs2 r.found rd inside is items c) × Keep m2 g

          ready_by : (v : modes.T.Path) → There q f m2 fs2 (Valued r y v) now → There q f m2 fs2 (Ready v) now
          ready_by v h =
              let g = h.point in
              let e = h.holds in
              let meet = all_meet e in
              record {
                point = g;
                later = h.later;
                stands = h.stands;
                holds = (
                  e.0,
                  meet,
                  λ d p l le noted stands.
                      let at_end = grown_later p le in
                      let x = (suffices_walks {q = q} {n = m3} {f = grown p le} {facts = fs2} place all
                      (modes.suffice v m2 g fs2 r.found e.0 inside is items meet m3 (grown p le) (later_on l at_end))).go noted
                      (stands_on at_end stands) owed in
                      (x.point.integers, agree_on (later_on at_end x.later) (same x.point), x.holds x.point.integers (same x.point)),
                  λ d p l. suffice_as (modes.suffice v m2 g fs2 r.found e.0 inside is items meet d p l) (λ c a s. tt),
                );
              }

          abbrev Ended_so : Point m3 → Item → Type 0
          Ended_so g x = Keep m3 g × (answer.answer ≡ I.Unit) × Is q.set q.work g I.Unit x

          all_written : AllMet q (each_one fs2 m2).notes → Ends q one_path (λ p x after. There q f m3 fs2 (λ g. Ended_so g x) after) (write now)
          all_written met =
              subst (λ (e : Ended Item Item). Ends q one_path (λ p x after. There q f m3 fs2 (λ g. Ended_so g x) after) e)
              (same_writes {v = picked.0} picked.1.holds)
              (modes.writes at inside is fs2 m2 r.found items m3 one_path (λ p. Keep) (λ p. stays) (omega arith) met now ok
              (modes.T.map {P = λ v. There q f m2 fs2 (Valued r y v) now} {Q = λ v. There q f m2 fs2 (Ready v) now} ready_by tree))

          -- what is owed of all, and the answer
          answer_walks : {g : Point m3} {x : Item} → Ended_so g x → Walks q m3 g fs2 (owed_answer place answer) (λ d p j. Is q.set q.work p j x)
          answer_walks {g} {x} h =
              walks_on (λ t. give answer.answer)
              (subst (λ (a : ℕ → Fitted). Walks q m3 g fs2 (owe_fit place a) (λ d p t. Unit {0})) (sym left_is)
              (walks_mean (λ d p t u. tt) (suffices_walks {q = q} {n = m3} {f = g} {facts = fs2} {Then = λ c. Unit {0}} place all (h.0 m3 g (no_later g)))))
              (λ d p gs t l u. given_back answer.answer (subst (λ j. Is q.set q.work p j x) (sym h.1) (is_on l h.2)))
            where
              left_is : answer.left ≡ all
              left_is = modes.lefts picked.0 m2 picked.1.point fs2 r.found picked.1.holds.0 at inside is fs2 m2

          answer_goes : (e : Ended Item Item) → Ends q one_path (λ p x after. There q f m3 fs2 (λ g. Ended_so g x) after) e
              → GoesAt (owed_answer place answer) fs2 m3 e
          answer_goes e h met =
              ends_map q one_path (λ p x after. There q f m3 fs2 (λ g. Ended_so g x) after)
              (λ p x after. There q f (owed_answer place answer fs2 m3).next (owed_answer place answer fs2 m3).facts
              (λ g. Is q.set q.work g (owed_answer place answer fs2 m3).value x) after) e (λ x after p s t.
              let a = (answer_walks t.holds).go after.opened t.stands met in
              record { point = a.point; later = later_on t.later a.later; stands = a.stands; holds = a.holds }) h

        left_same : answer.left ≡ all
        left_same = modes.lefts picked.0 m2 picked.1.point fs2 r.found picked.1.holds.0 at inside is fs2 m2

        -- what is owed is met in all
        owed_in : AllMet q (owed_answer place answer fs2 m3).notes → AllMet q (owe_fit place all fs2 m3).notes
        unfolding bind
        owed_in met =
            subst (λ (a : ℕ → Fitted). AllMet q (owe_fit place a fs2 m3).notes) left_same (met_front q (owe_fit place answer.left fs2 m3).notes _ met)

        answer_at : (gs : List Fact) → gs ≡ fs2 → AllMet q (each_one fs2 m2).notes → GoesAt (owed_answer place answer) gs m3 (write now)
        answer_at gs e met_each =
            subst (λ hs. GoesAt (owed_answer place answer) hs m3 (write now)) (sym e) (λ met.
            answer_goes (owed_in met) (write now) (all_written (owed_in met) met_each) met)

        tuple_goes : GoesAt (bind each_one (owed_answer place)) fs2 m2 (write now)
        unfolding bind
        tuple_goes met =
            answer_at (each_one fs2 m2).facts (all_facts at spots inside is fs2 m2) (met_front q (each_one fs2 m2).notes _ met)
            (met_behind q (each_one fs2 m2).notes _ met)

      -- ---- by what the value is

      abbrev by_form : Indices-F Indices Reading → Walk Indices
      by_form form = bind (tuple_write at spots nested form) (owed_answer place)

      wrong_met : AllMet q (bind (Walked.wrong_write at) (owed_answer place) fs2 m2).notes → AllMet q (Walked.wrong_write at fs2 m2).notes
      unfolding bind
      wrong_met met = met_front q _ _ met

      form_goes : (form : Indices-F Indices Reading) → out-Indices value_there ≡ form → GoesAt (by_form form) fs2 m2 (write now)
      form_goes (W.Tuple is) e met = tuple_goes is e met
      form_goes W.Never e met =
          let some = picked.1.holds in
          let bad : true ≡ false = sym (ap is_never_form e) ∙ not_never q.set q.work value_there y.val some.1.has in
          absurd (cc)
      form_goes form e met = absurd (wrong_there q w at fs2 m2 modes.T {Holds = λ v. Valued r y v} now tree (wrong_met met))

      written : GoesAt (right.last the_spot left value_there) fs2 m2 (write now)
      written =
          subst (λ (walk : Walk Indices). GoesAt walk fs2 m2 (write now)) (sym picked.1.holds.3) (form_goes (out-Indices value_there) refl)

    -- ---- all of it

    abbrev behind : Option SpottedAll → Walk Indices
    behind o = bind (spot_first right (tuple_spotted at k o)) (spot_last right (tuple_spotted at k o))

    abbrev writes : Runs.Spotted Item modes.P → Run Item Item
    writes t = right.run t.left then (Runs.tuple_spot (z q) k (modes.views t.found)).write

    found_is : (v : modes.T.Path) (r : Runs.Spotted Item modes.P) (h : Point m1) → FoundThere r v h → found_there ≡ spotted_all spots left
    found_is v r h e = e.1 ∙ ap (λ ls. spotted_all spots ls) (ap spotted_left (sym e.1))

    module _ (r : Runs.Spotted Item modes.P) (now : Now Item) (ok : Sound q now) (tree : modes.T.Tree (λ v. There q f m1 fs1 (FoundThere r v) now)) where
      spot_goes : GoesAt (behind (spotted_all spots left)) fs1 m1 (writes r now)
      unfolding bind
      spot_goes met =
          ends_then q modes.T one_path (λ v y after. There q f m2 fs2 (Valued r y v) after)
          (λ p x after. There q f (right.last the_spot left value_there fs2 m2).next (right.last the_spot left value_there fs2 m2).facts
          (λ g. Is q.set q.work g (right.last the_spot left value_there fs2 m2).value x) after) (right.run r.left now)
          (Runs.tuple_spot (z q) k (modes.views r.found)).write (values r now ok tree (met_front q (first_walk fs1 m1).notes _ met)) (λ y after tree2 ok2.
          written r y after ok2 tree2 (met_behind q (first_walk fs1 m1).notes _ met))

      found_goes : GoesAt (behind found_there) fs1 m1 (writes r now)
      found_goes =
          let some = modes.T.pick {P = λ v. There q f m1 fs1 (FoundThere r v) now} tree in
          subst (λ (o : Option SpottedAll). GoesAt (behind o) fs1 m1 (writes r now)) (sym (found_is some.0 r some.1.point some.1.holds)) spot_goes

    all_goes : Beside q n f facts (bind each_walk behind) (parts.found us then writes) (λ m g j u. Is q.set q.work g j u)
    unfolding bind
    all_goes = record {
      run = λ now stands met ok.
          ends_well q (λ g u. Is q.set q.work g (behind found_there fs1 m1).value u) ((parts.found us then writes) now)
          (ends_then q modes.T one_path (λ v r after. There q f m1 fs1 (FoundThere r v) after)
          (λ p x after. There q f (behind found_there fs1 m1).next (behind found_there fs1 m1).facts
          (λ g. Is q.set q.work g (behind found_there fs1 m1).value x) after) (parts.found us now) writes
          (parts.finds f us (no_later f) fine there now stands (met_front q (each_walk facts n).notes _ met) ok) (λ r after tree ok2.
          found_goes r after ok2 tree (met_behind q (each_walk facts n).notes _ met)));
    }

  same_runs : (right : Right) (n : ℕ) (f : Point n) (facts : List Fact) (ps : List Part) (us : List (Run Item Item)) (there : Surrounds q w f scope)
      (now : Now Item) → goes_on ((each n f there n facts ps).found us now)
      (λ t. right.run t.left then (Runs.tuple_spot (z q) k ((each n f there n facts ps).modes.views t.found)).write)
      ≡ goes_on (target_meaning (z q) w at k T.Tuple trs us now) (λ r. right.run r.left then r.found.write)
  same_runs right n f facts ps us there now =
      let parts : EachFound q w scope ts trs f n facts ps = each n f there n facts ps in
      let views : parts.modes.P → List (Runs.Spot Item) = parts.modes.views in
      let found : Ended Item (Runs.Spotted Item parts.modes.P) = parts.found us now in
      sym (under found (λ r. Runs.spotted (views r.found) r.left) (λ t. right.run t.left then (Runs.tuple_spot (z q) k (views t.found)).write)
      (λ r. right.run r.left then (Runs.tuple_spot (z q) k r.found).write) (λ r n1. refl))
      ∙ sym (ap (λ e. goes_on e (λ r. right.run r.left then (Runs.tuple_spot (z q) k r.found).write)) (parts.is_run us now))
      ∙ sym (under (Runs.spots_of trs us now) _ _ (λ r. right.run r.left then r.found.write) (λ r n1. refl))

  pub parts_target : Goes fit q w narrow closed place scope (kind_spot at k T.Tuple ts) (target_meaning (z q) w at k T.Tuple trs)
  parts_target right right_fine further splits n f facts ps us fine there =
      walk_regrouped (each_spot ts (here q) scope ps) (λ o. give (tuple_spotted at k o)) (then_assigned further)
      (subst (λ (g : Option SpottedAll → Walk Indices). Beside q n f facts (bind (each_spot ts (here q) scope ps) g)
      (λ now. goes_on (target_meaning (z q) w at k T.Tuple trs us now) (λ r. right.run r.left then r.found.write)) (λ m g2 j u. Is q.set q.work g2 j u))
      (λ j. λ o. (sym (given_first (tuple_spotted at k o) (then_assigned further) ∙ spot_same further right splits (tuple_spotted at k o))) j)
      (runs_as (λ now. same_runs right n f facts ps us there now) (all_goes right right_fine f facts ps us fine there)))
