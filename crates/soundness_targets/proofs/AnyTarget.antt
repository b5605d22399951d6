-- Every target is found beside its run, whatever it is: its arguments and indexes end well, and behind one that the walk refuses nothing is left.
use Rattle.std.proofs.Common.{◌≡◌, ◌∙◌, ◌++◌, ◌-◌, ℕ, Bool, true, false, List, [], ◌∷◌, drop, if◌then◌else◌, length, map, slice_get, take}
use Rattle.std.proofs.Common.{◌||◌, Option, Some, None, refl, sym, ap, subst}
use Rattle.std.specs.List.{list_all, list_any}
use Rattle.sail_base.specs.declared.place.Place.{Place}
use Rattle.sail_types.specs.declared.numbers.Num.{Num}
use Rattle.sail_core.specs.Making.{World}
use Rattle.sail_core.specs.Run.{Ended, Run, ◌then◌}
use Rattle.sail_core.specs.Targets as Runs
use Rattle.sail_core.specs.Targets.{target_meaning, ways_of}
use Rattle.sail_core.specs.Values.{Into}
use Rattle.sail_core.specs.declared.targets.Caller.{Caller}
use Rattle.sail_core.specs.declared.targets.Suffix.{Suffix}
use Rattle.sail_core.specs.declared.targets.Target.{Target, Target-F, fold-roll-Target, ind-Target, map-Target, roll-Target}
use Rattle.sail_core.specs.declared.targets.TargetKind.{TargetKind}
use Rattle.sail_core.specs.declared.targets.TargetKind.TheVariants as T
use Rattle.value_indices.specs.Steps.{Walk, bind, give, next_variable, scoped, wrong}
use Rattle.value_indices.specs.declared.indices.Indices.{Indices}
use Rattle.value_indices.specs.declared.notes.Fact.{Fact}
use Rattle.pattern_leaves.specs.Settings.{Scope, held_in}
use Rattle.call_arguments.specs.Holes.{value_has_hole}
use Rattle.call_notes.specs.Calls.{callee_types}
use Rattle.call_notes.specs.Ends.{wrong_value}
use Rattle.expression_forms.specs.Spots.{Spot, call_spot, held_spot, in_force, known_from, late_part, late_spot, part_spot}
use Rattle.expression_forms.specs.Spots.{register_spot, tuple_spot, wrong_spot}
use Rattle.expression_forms.specs.declared.spots.Known.{Known}
use Rattle.expression_forms.specs.declared.ways.Reached.{Reached}
use Rattle.expression_steps.specs.Calls.{argument_aims, nestings}
use Rattle.expression_steps.specs.Parts.{Part, numbers_walk}
use Rattle.expression_steps.specs.Targets.{Spotted, SpottedAll, Spotting, call_spotted, each_late, each_spot, has_no_way, is_short}
use Rattle.expression_steps.specs.Targets.{kind_spot, known_late, last_suffix}
use Rattle.expression_steps.specs.Targets.{late_count, late_place, late_spotted, no_spot, numbered_late, part_late, part_of}
use Rattle.expression_steps.specs.Targets.{part_spotted, part_within, read_ahead}
use Rattle.expression_steps.specs.Targets.{spotted, spotted_all, spotted_late, spotting, suffixes_spot, then_spot, tuple_spotted, ways_late, with_spot}
use Rattle.expression_steps.specs.Values.{Passed, Taken, suffixes_walk, then_on, way_walk}
use Rattle.expression_steps.specs.declared.late.Ahead.{Ahead}
use Rattle.expression_steps.specs.declared.late.Late.{Late}
use Rattle.checked_meaning.specs.Items.{Item}
use Rattle.value_laws.specs.Known.{Point}
use Rattle.soundness_steps.specs.Steps.{Beside, EndsWell, Walks, well_given, well_no, well_returned, well_stopped, well_thrown}
use Rattle.soundness_steps.specs.Works.{Scene, here}
use Rattle.soundness_steps.proofs.Points.{no_later}
use Rattle.soundness_steps.proofs.Steps.{binds, given_back, grown, grown_later, means, rests, runs_on, stands_on, walks_on, walks_then}
use Rattle.soundness_forms.specs.Forms.{AllFine}
use Rattle.soundness_forms.specs.Registers.{RegistersClosed}
use Rattle.soundness_forms.specs.Worlds.{Surrounds}
use Rattle.soundness_forms.proofs.Basics.{then_walks, wrong_alone, wrong_walks}
use Rattle.soundness_forms.proofs.Parts.{each_fine}
use Rattle.soundness_forms.proofs.Worlds.{surrounds_on}
use Rattle.soundness_values.specs.Named.{TypesNarrow}
use Rattle.soundness_values.proofs.Mappings.{arguments_steady, none_beside}
use Rattle.soundness_values.proofs.NamedKinds.{all_taken}
use Rattle.soundness_parts.proofs.PartGrowth.{Gives, any, gives_back, gives_bind}
use Rattle.soundness_parts.proofs.Taken.{z}
use Rattle.soundness_targets.proofs.Plain.{Shape, a_call, a_late, a_name, a_part, a_parted, a_tuple, a_wrong, is_item, is_member, is_wrong, part_form, shape}
use Rattle.soundness_targets.proofs.Plain.{shape_form}
use Rattle.soundness_targets.proofs.CallTargets.{all_dropped}
use Rattle.soundness_targets.proofs.Findings.{Finding, FoundSo, part_finding}
use Rattle.soundness_targets.proofs.LateGrowth.{call_base, part_late_grows}
use Rattle.soundness_targets.proofs.LateIndexes.{Indexed, all_indexed}
use Rattle.soundness_targets.proofs.LateKnown.{late_found}
use Rattle.soundness_targets.proofs.Modes.{Mode}
use Rattle.soundness_targets.proofs.PartGrows.{BaseGrows}
use Rattle.soundness_targets.proofs.Shapes.{ShapeIs, shape_is}

-- ---- what a walk gives is known by itself, and where it comes to nothing nothing holds

ends_with : {q : Scene} {n : ℕ} {f : Point n} {m : ℕ} {facts : List Fact} {B : Type 0} {Holds Then : Point m → B → Type 0} {e : Ended Item B}
    → ((p : Point m) (x : B) → Holds p x → Then p x) → EndsWell q f m facts Holds e → EndsWell q f m facts Then e
ends_with say (well_given x now r ok) =
    well_given x now (record { point = r.point; later = r.later; stands = r.stands; holds = say r.point x r.holds }) ok
ends_with say (well_no now a ok) = well_no now a ok
ends_with say (well_returned v now b ok) = well_returned v now b ok
ends_with say (well_thrown v now b ok) = well_thrown v now b ok
ends_with say (well_stopped cause now) = well_stopped cause now

with_known : {q : Scene} {n : ℕ} {f : Point n} {facts : List Fact} {A B : Type 0} {w : Walk A} {c : Run Item B} {Holds : (m : ℕ) → Point m → A → B → Type 0}
    (P : A → Type 0) → P (w facts n).value → Beside q n f facts w c Holds → Beside q n f facts w c (λ m g a x. P a × Holds m g a x)
with_known P h b = record { run = λ now stands met ok. ends_with (λ p x k. (h, k)) (b.run now stands met ok) }

-- ---- what can't have a part

module _ (q : Scene) (scope : Scope) where
  no_spot_walks : {n : ℕ} {f : Point n} {facts : List Fact} (at : Place) → Walks q n f facts (no_spot at) (λ m g o. ⊥)
  unfolding bind give
  no_spot_walks {n} {f} {facts} at = record {
    go = λ noted stands met.
        let none : Walks q n f facts (wrong_value at) (λ m g a. ⊥) = wrong_walks at in
        absurd (none.go noted stands met).holds;
  }

  abbrev NoPart : Spot → Type 0
  NoPart s = (at : Place) (k : ℕ) (ss : List Suffix) (n : ℕ) (f : Point n) (facts : List Fact) (left : List Part)
      → Walks q n f facts (part_within at k ss (here q) scope s left) (λ m g o. ⊥)

  wrong_no : (p : Place) → NoPart (wrong_spot p)
  wrong_no p at k ss n f facts left =
      walks_on (suffixes_spot at k (slice_get ss (length ss - 1)) (take (length ss - 1) ss) (here q) scope (wrong_spot p) left) (wrong_walks p)
      (λ m g fs a l e. absurd e)

  closed_no : (s : Spot) → s.is_base ≡ false → NoPart s
  closed_no s e at k ss n f facts left =
      subst (λ b. Walks q n f facts (if b then (if s.is_late then spotted_late at k ss (here q) scope s left else part_of at k ss (here q) scope s left)
      else no_spot at) (λ m g o. ⊥)) (sym e) (no_spot_walks at)

  abbrev NoParts : Option Spotted → Type 0
  NoParts None = Unit {0}
  NoParts (Some s) = NoPart s.spot

  part_no : (place : Place) (k : ℕ) (s : Suffix) (base : Spot) (held : Indices) (x : Option Reached) → NoPart (part_spot (here q) place k s.way base held x)
  part_no place k s base held None = wrong_no place
  part_no place k s base held (Some x) = closed_no (part_spot (here q) place k s.way base held (Some x)) refl

  late_no : (place : Place) (k : ℕ) (base : Spot) (held : Indices) (known : Known) (x : Option Reached)
      → NoPart (late_part (here q) place k base held x known)
  late_no place k base held known None = wrong_no place
  late_no place k base held known (Some x) = by (value_has_hole held)
    where
      by : (b : Bool) → NoPart (if b then wrong_spot place else late_spot (here q) place k base held x known)
      by true = wrong_no place
      by false = closed_no (late_spot (here q) place k base held x known) refl

  module _ (at : Place) (k : ℕ) where
    nowhere_no : Gives NoParts (no_spot at)
    nowhere_no = gives_bind (λ t. Unit {0}) NoParts (wrong at) (λ t. give None) (any (wrong at)) (λ t u. gives_back NoParts None tt)

    module _ (base : Spot) (ss : List Suffix) where
      taken_no : (held : Indices) (s : Suffix) (o : Option Taken) → NoParts (part_spotted (here q) k s base held o)
      taken_no held s None = tt
      taken_no held s (Some t) = part_no s.place k s base held t.reached

      last_no : (held : Indices) (s : Suffix) (ps : List Part) (i : Indices) → Gives NoParts (last_suffix k s (here q) scope base held ps i)
      last_no held s ps i =
          gives_bind (λ o. Unit {0}) NoParts (way_walk s.place ps (here q) scope i s.way) (λ o. give (part_spotted (here q) k s base held o))
          (any (way_walk s.place ps (here q) scope i s.way)) (λ o u. gives_back NoParts (part_spotted (here q) k s base held o) (taken_no held s o))

      then_no : (held : Indices) (s : Suffix) (o : Option Passed) → Gives NoParts (then_on (last_suffix k s (here q) scope base held) o)
      then_no held s None = gives_back NoParts None tt
      then_no held s (Some p) = last_no held s p.left p.value

      suffixes_no : (o : Option Suffix) (init : List Suffix) (left : List Part) (held : Indices)
          → Gives NoParts (suffixes_spot at k o init (here q) scope base left held)
      suffixes_no None init left held = nowhere_no
      suffixes_no (Some s) init left held =
          gives_bind (λ o. Unit {0}) NoParts (suffixes_walk true init (here q) scope left held) (then_on (last_suffix k s (here q) scope base held))
          (any (suffixes_walk true init (here q) scope left held)) (λ o u. then_no held s o)

      part_of_no : (left : List Part) → Gives NoParts (part_of at k ss (here q) scope base left)
      part_of_no left =
          let next : Indices → Walk (Option Spotted) = suffixes_spot at k (slice_get ss (length ss - 1)) (take (length ss - 1) ss) (here q) scope base left in
          gives_bind (λ i. Unit {0}) NoParts base.read next (any base.read) (λ held u.
          suffixes_no (slice_get ss (length ss - 1)) (take (length ss - 1) ss) left held)

      found_no : (a : Ahead) (n : ℕ) (fs : List Fact) (left : List Part) (o : Option Late) → NoParts (late_spotted at (here q) k base a n fs left o)
      found_no a n fs left None = tt
      found_no a n fs left (Some l) = late_no (late_place at l) k base a.held _ l.reached

      known_no : (left : List Part) (a : Ahead) (ns : List Num) → Gives NoParts (known_late at k ss (here q) base a left ns)
      known_no left a ns =
          gives_bind (λ n. Unit {0}) NoParts next_variable (λ n. bind (ways_late at ss (here q) ns a) (λ o.
          give (late_spotted at (here q) k base a n (known_from n (part_late at ss (here q) ns a.held)) left o))) (any next_variable) (λ n u.
          gives_bind (λ o. Unit {0}) NoParts (ways_late at ss (here q) ns a) (λ o.
          give (late_spotted at (here q) k base a n (known_from n (part_late at ss (here q) ns a.held)) left o)) (any (ways_late at ss (here q) ns a)) (λ o v.
          gives_back NoParts (late_spotted at (here q) k base a n (known_from n (part_late at ss (here q) ns a.held)) left o)
          (found_no a n (known_from n (part_late at ss (here q) ns a.held)) left o)))

      numbered_no : (left : List Part) (a : Ahead) (o : Option (List Num)) → Gives NoParts (numbered_late at k ss (here q) base left a o)
      numbered_no left a None = gives_back NoParts None tt
      numbered_no left a (Some ns) = known_no left a ns

      each_no : (left : List Part) → Gives NoParts (each_late at k ss (here q) scope base left)
      each_no left =
          let c = late_count ss left in
          gives_bind (λ a. Unit {0}) NoParts (read_ahead base)
          (λ a. bind (numbers_walk (take c left) (here q) scope) (numbered_late at k ss (here q) base (drop c left) a)) (any (read_ahead base)) (λ a u.
          gives_bind (λ o. Unit {0}) NoParts (numbers_walk (take c left) (here q) scope) (numbered_late at k ss (here q) base (drop c left) a)
          (any (numbers_walk (take c left) (here q) scope)) (λ o v. numbered_no (drop c left) a o))

      late_by : (left : List Part) (b : Bool) → Gives NoParts (if b then no_spot at else each_late at k ss (here q) scope base left)
      late_by left true = nowhere_no
      late_by left false = each_no left

      within_by : (left : List Part) (is_base is_late : Bool) → Gives NoParts (if is_base
          then (if is_late then spotted_late at k ss (here q) scope base left else part_of at k ss (here q) scope base left) else no_spot at)
      within_by left true true = late_by left (has_no_way ss (length left))
      within_by left true false = part_of_no left
      within_by left false is_late = nowhere_no

    then_within : (ss : List Suffix) (o : Option Spotted) → Gives NoParts (then_spot (part_within at k ss (here q) scope) o)
    then_within ss None = gives_back NoParts None tt
    then_within ss (Some s) = within_by s.spot ss s.left s.spot.is_base s.spot.is_late

    part_target_no : (ss : List Suffix) (t : Spotting) (ps : List Part) → Gives NoParts (kind_spot at k (T.Part ss) (t ∷ []) (here q) scope ps)
    part_target_no ss t ps =
        gives_bind (λ o. Unit {0}) NoParts (t (here q) scope ps) (then_spot (part_within at k ss (here q) scope)) (any (t (here q) scope ps)) (λ o u.
        then_within ss o)

    tuple_no : (all : Option SpottedAll) → NoParts (tuple_spotted at k all)
    tuple_no None = tt
    tuple_no (Some all) = closed_no (tuple_spot at k all.spots) refl

    tuple_target_no : (ts : List Spotting) (ps : List Part) → Gives NoParts (kind_spot at k T.Tuple ts (here q) scope ps)
    tuple_target_no ts ps =
        gives_bind (λ o. Unit {0}) NoParts (each_spot ts (here q) scope ps) (λ all. give (tuple_spotted at k all)) (any (each_spot ts (here q) scope ps))
        (λ all u. gives_back NoParts (tuple_spotted at k all) (tuple_no all))

-- ---- what is found

module _ (q : Scene) (w : World Item) where
  abbrev Left : Option Spotted → Runs.Spotted Item (Runs.Spot Item) → Type 0
  Left None r = ⊥
  Left (Some s) r = AllFine q w s.left r.left

  -- of one that is refused nothing
  abbrev LeftOf : Shape → Option Spotted → Runs.Spotted Item (Runs.Spot Item) → Type 0
  LeftOf a_wrong o r = ⊥
  LeftOf form o r = Left o r

  -- the others of several, where one of them may be refused
  abbrev AllLeft : Bool → Option SpottedAll → Runs.Spotted Item (List (Runs.Spot Item)) → Type 0
  AllLeft true o r = ⊥
  AllLeft false None r = ⊥
  AllLeft false (Some all) r = AllFine q w all.left r.left

  left_by : (c : Shape) (o : Option Spotted) (r : Runs.Spotted Item (Runs.Spot Item)) → LeftOf c o r → Left o r
  left_by a_name o r h = h
  left_by a_part o r h = h
  left_by a_call o r h = h
  left_by a_late o r h = h
  left_by a_tuple o r h = h
  left_by a_parted o r h = h
  left_by a_wrong o r h = absurd h

  not_left : (c : Shape) (o : Option Spotted) (r : Runs.Spotted Item (Runs.Spot Item)) → is_wrong c ≡ true → LeftOf c o r → ⊥
  not_left a_wrong o r e h = h
  not_left a_name o r e h = absurd (cc)
  not_left a_part o r e h = absurd (cc)
  not_left a_call o r e h = absurd (cc)
  not_left a_late o r e h = absurd (cc)
  not_left a_tuple o r e h = absurd (cc)
  not_left a_parted o r e h = absurd (cc)

module _ (q : Scene) (w : World Item) (narrow : TypesNarrow q.set.around.types) (closed : RegistersClosed q.set) (scope : Scope) where
  abbrev runs : Target → Runs.Spotting Item (Runs.Spot Item)
  runs t = Runs.spotting (z q) w t

  abbrev Founds : (Option Spotted → Runs.Spotted Item (Runs.Spot Item) → Type 0) → Spotting → Runs.Spotting Item (Runs.Spot Item) → Type 0
  Founds Holds t tr = (n : ℕ) (f : Point n) (facts : List Fact) (ps : List Part) (us : List (Run Item Item)) → AllFine q w ps us → Surrounds q w f scope
      → Beside q n f facts (t (here q) scope ps) (tr us) (λ m g o r. Holds o r)

  once_left : (s : Spot) (sr : Runs.Spot Item) → Founds (Left q w) (λ around names ps. give (spotted s ps)) (λ us. Runs.spotted sr us)
  once_left s sr n f facts ps us fine there = rests (record { found = sr; left = us }) (given_back (spotted s ps) fine)

  refused : (at : Place) (tr : Runs.Spotting Item (Runs.Spot Item)) → Founds (λ o r. ⊥) (λ around names ps. no_spot at) tr
  refused at tr n f facts ps us fine there = wrong_alone at (tr us)

  calls : (at : Place) (k count : ℕ) (reader : Option Caller) (writer : Caller)
      → Founds (Left q w) (kind_spot at k (T.Call count reader writer) []) (target_meaning (z q) w at k (T.Call count reader writer) [])
  calls at k count reader writer n f facts ps us fine there =
      binds (call_spotted (here q) at k count reader writer ps)
      (λ xs. Runs.spotted (Runs.call_spot (z q) w at k reader writer xs) (drop count us))
      (each_fine q w scope (take count ps) (take count us) (all_taken q w count ps us fine) (argument_aims (callee_types (here q) writer.callee)) there
      (arguments_steady q.set q.work f (callee_types (here q) writer.callee)))
      (λ m g fs is xs l e.
      rests (record { found = Runs.call_spot (z q) w at k reader writer xs; left = drop count us })
      (given_back (spotted (call_spot (here q) at k reader writer (nestings (take count ps)) is) (drop count ps)) (all_dropped q w count ps us fine)))

  -- ---- a part of a call

  module _ (at : Place) (k : ℕ) (s : Suffix) (ss : List Suffix) (base : Spot) (h : BaseGrows (here q) base) (sr : Runs.Spot Item) {n : ℕ} {f : Point n}
      (left : List Part) (us : List (Run Item Item)) (fine : AllFine q w left us) (there : Surrounds q w f scope) where
    abbrev behind : List Part
    behind = drop (late_count (s ∷ ss) left) left

    abbrev LeftWays : Option Spotted → Runs.Spotted Item (List Into) → Type 0
    LeftWays None t = ⊥
    LeftWays (Some c) t = AllFine q w c.left t.left

    ahead_any : {facts : List Fact} → Walks q n f facts (read_ahead base) (λ m p a. Unit {0})
    unfolding bind next_variable scoped give
    ahead_any {facts} = record {
      go = λ noted stands met.
          let on = h.reads.onward facts n in
          record { point = grown f on; later = grown_later f on; stands = stands_on (grown_later f on) stands; holds = tt };
    }

    known_any : {m : ℕ} {p : Point m} {fs : List Fact} (a : Ahead) (ns : List Num) (t : Runs.Spotted Item (List Into)) → AllFine q w behind t.left
        → Walks q m p fs (known_late at k (s ∷ ss) (here q) base a behind ns) (λ d c o. LeftWays o t)
    unfolding bind give scoped in_force next_variable
    known_any {m} {p} {fs} a ns t e = record {
      go = λ noted stands met.
          let more = (part_late_grows (here q) at (s ∷ ss) ns a.held).onward (fs ++ a.facts) m in
          let x = late_found (here q) at ns a.held s ss (fs ++ a.facts) m in
          record {
            point = grown p more;
            later = grown_later p more;
            stands = stands_on (grown_later p more) stands;
            holds = subst (λ o. LeftWays (late_spotted at (here q) k base a m (known_from m (part_late at (s ∷ ss) (here q) ns a.held)) behind o) t)
                (sym x.1) e;
          };
    }

    numbered_any : {m : ℕ} {p : Point m} {fs : List Fact} (a : Ahead) (o : Option (List Num)) (t : Runs.Spotted Item (List Into))
        → Indexed q w scope (s ∷ ss) behind p o t → Walks q m p fs (numbered_late at k (s ∷ ss) (here q) base behind a o) (λ d c e. LeftWays e t)
    numbered_any a None t e = absurd e
    numbered_any a (Some ns) t e = known_any a ns t e.1

    abbrev numbers_then : Ahead → Walk (Option Spotted)
    numbers_then a = bind (numbers_walk (take (late_count (s ∷ ss) left) left) (here q) scope) (numbered_late at k (s ∷ ss) (here q) base behind a)

    each_any : {facts : List Fact} → is_short (s ∷ ss) (length left) ≡ false
        → Beside q n f facts (each_late at k (s ∷ ss) (here q) scope base left) (ways_of (z q) (s ∷ ss) us) (λ m p o t. LeftWays o t)
    each_any enough =
        walks_then numbers_then ahead_any (λ m p fs a l u.
        then_walks (numbered_late at k (s ∷ ss) (here q) base behind a)
        (all_indexed q w scope (s ∷ ss) m p fs left us enough fine (surrounds_on q w scope l there)) (λ d c gs o t l2 e.
        numbered_any a o t e))

    abbrev part_run : Run Item (Runs.Spotted Item (Runs.Spot Item))
    part_run = ways_of (z q) (s ∷ ss) us then λ ways. Runs.spotted (Runs.part_spot (z q) k sr ways.found) ways.left

    late_any : {facts : List Fact} (b : Bool) → is_short (s ∷ ss) (length left) ≡ b
        → Beside q n f facts (if b then no_spot at else each_late at k (s ∷ ss) (here q) scope base left) part_run (λ m g o r. Left q w o r)
    late_any true e = wrong_alone at part_run
    late_any false e =
        runs_on (λ ways. Runs.spotted (Runs.part_spot (z q) k sr ways.found) ways.left) (each_any e) (λ m g fs o t l x.
        rests (record { found = Runs.part_spot (z q) k sr t.found; left = t.left }) (given_back o (by o t x)))
      where
        by : (o : Option Spotted) (t : Runs.Spotted Item (List Into)) → LeftWays o t
            → Left q w o (record { found = Runs.part_spot (z q) k sr t.found; left = t.left })
        by None t x = absurd x
        by (Some c) t x = x

  abbrev IsCall : Spot → Type 0
  IsCall c = BaseGrows (here q) c × (c.is_base ≡ true) × (c.is_late ≡ true)

  abbrev CallLeft : Option Spotted → Runs.Spotted Item (Runs.Spot Item) → Type 0
  CallLeft None r = ⊥
  CallLeft (Some c) r = AllFine q w c.left r.left × IsCall c.spot

  call_is : (base_at : Place) (b count : ℕ) (reader : Option Caller) (writer : Caller)
      → Founds CallLeft (kind_spot base_at b (T.Call count reader writer) []) (target_meaning (z q) w base_at b (T.Call count reader writer) [])
  call_is base_at b count reader writer n f facts ps us fine there =
      binds (call_spotted (here q) base_at b count reader writer ps)
      (λ xs. Runs.spotted (Runs.call_spot (z q) w base_at b reader writer xs) (drop count us))
      (each_fine q w scope (take count ps) (take count us) (all_taken q w count ps us fine) (argument_aims (callee_types (here q) writer.callee)) there
      (arguments_steady q.set q.work f (callee_types (here q) writer.callee)))
      (λ m g fs is xs l e.
      rests (record { found = Runs.call_spot (z q) w base_at b reader writer xs; left = drop count us })
      (given_back (spotted (call_spot (here q) base_at b reader writer (nestings (take count ps)) is) (drop count ps))
      (all_dropped q w count ps us fine, (call_base (here q) base_at b reader writer (nestings (take count ps)) is, refl, refl))))

  module _ (at : Place) (k : ℕ) (ss : List Suffix) where
    abbrev of_spot : Option Spotted → Walk (Option Spotted)
    of_spot o = then_spot (part_within at k ss (here q) scope) o

    abbrev run_of : Runs.Spotted Item (Runs.Spot Item) → Run Item (Runs.Spotted Item (Runs.Spot Item))
    run_of base = ways_of (z q) ss base.left then λ ways. Runs.spotted (Runs.part_spot (z q) k base.found ways.found) ways.left

    -- of a call it is a part of what is there late
    as_late : (H : Option Spotted → Runs.Spotted Item (Runs.Spot Item) → Type 0) {m : ℕ} {g : Point m} {fs : List Fact} (c : Spotted)
        (r : Runs.Spotted Item (Runs.Spot Item)) → IsCall c.spot
        → Beside q m g fs (spotted_late at k ss (here q) scope c.spot c.left) (run_of r) (λ d p e x. H e x)
        → Beside q m g fs (of_spot (Some c)) (run_of r) (λ d p e x. H e x)
    as_late H {m} {g} {fs} c r h late =
        subst (λ (v : Walk (Option Spotted)). Beside q m g fs v (run_of r) (λ d p e x. H e x))
        ((λ j. if sym h.2 j then spotted_late at k ss (here q) scope c.spot c.left else part_of at k ss (here q) scope c.spot c.left)
        ∙ (λ j. if sym h.1 j then (if c.spot.is_late then spotted_late at k ss (here q) scope c.spot c.left
        else part_of at k ss (here q) scope c.spot c.left) else no_spot at)) late

  part_of_call : (at : Place) (k : ℕ) (s : Suffix) (ss : List Suffix) (base_at : Place) (b count : ℕ) (reader : Option Caller) (writer : Caller)
      → Founds (Left q w) (kind_spot at k (T.Part (s ∷ ss)) (kind_spot base_at b (T.Call count reader writer) [] ∷ []))
      (target_meaning (z q) w at k (T.Part (s ∷ ss)) (target_meaning (z q) w base_at b (T.Call count reader writer) [] ∷ []))
  part_of_call at k s ss base_at b count reader writer n f facts ps us fine there =
      binds (of_spot at k (s ∷ ss)) (run_of at k (s ∷ ss)) (call_is base_at b count reader writer n f facts ps us fine there) (λ m g fs o r l h.
      by o r (surrounds_on q w scope l there) h)
    where
      by : {m : ℕ} {g : Point m} {fs : List Fact} (o : Option Spotted) (r : Runs.Spotted Item (Runs.Spot Item)) → Surrounds q w g scope → CallLeft o r
          → Beside q m g fs (of_spot at k (s ∷ ss) o) (run_of at k (s ∷ ss) r) (λ d p e x. Left q w e x)
      by None r around h = absurd h
      by (Some c) r around h =
          as_late at k (s ∷ ss) (Left q w) c r h.1
          (late_any at k s ss c.spot h.1.0 r.found c.left r.left h.0 around (is_short (s ∷ ss) (length c.left)) refl)

  -- without a suffix there is none
  none_of_call : (at : Place) (k : ℕ) (base_at : Place) (b count : ℕ) (reader : Option Caller) (writer : Caller)
      → Founds (λ o r. ⊥) (kind_spot at k (T.Part []) (kind_spot base_at b (T.Call count reader writer) [] ∷ []))
      (target_meaning (z q) w at k (T.Part []) (target_meaning (z q) w base_at b (T.Call count reader writer) [] ∷ []))
  none_of_call at k base_at b count reader writer n f facts ps us fine there =
      binds (of_spot at k []) (run_of at k []) (call_is base_at b count reader writer n f facts ps us fine there) (λ m g fs o r l h. by o r h)
    where
      by : {m : ℕ} {g : Point m} {fs : List Fact} (o : Option Spotted) (r : Runs.Spotted Item (Runs.Spot Item)) → CallLeft o r
          → Beside q m g fs (of_spot at k [] o) (run_of at k [] r) (λ d p e x. ⊥)
      by None r h = absurd h
      by (Some c) r h = as_late at k [] (λ e x. ⊥) c r h.1 (none_beside (no_spot_walks q scope at))

  -- ---- a part of what has none

  part_refused : (at : Place) (k : ℕ) (ss : List Suffix) (t : Spotting) (tr : Runs.Spotting Item (Runs.Spot Item))
      → Founds (λ o r. NoParts q scope o × Left q w o r) t tr
      → Founds (λ o r. ⊥) (kind_spot at k (T.Part ss) (t ∷ [])) (target_meaning (z q) w at k (T.Part ss) (tr ∷ []))
  part_refused at k ss t tr h n f facts ps us fine there =
      binds (then_spot (part_within at k ss (here q) scope))
      (λ base. ways_of (z q) ss base.left then λ ways. Runs.spotted (Runs.part_spot (z q) k base.found ways.found) ways.left)
      (h n f facts ps us fine there) (λ m g fs o r l e. by o r e)
    where
      by : {m : ℕ} {g : Point m} {fs : List Fact} (o : Option Spotted) (r : Runs.Spotted Item (Runs.Spot Item)) → NoParts q scope o × Left q w o r
          → Beside q m g fs (then_spot (part_within at k ss (here q) scope) o)
          (ways_of (z q) ss r.left then λ ways. Runs.spotted (Runs.part_spot (z q) k r.found ways.found) ways.left) (λ d p e x. ⊥)
      by None r e = absurd e.1
      by {m} {g} {fs} (Some c) r e = none_beside (e.0 at k ss m g fs c.left)

  weaker : {H J : Option Spotted → Runs.Spotted Item (Runs.Spot Item) → Type 0} (t : Spotting) (tr : Runs.Spotting Item (Runs.Spot Item))
      → ((o : Option Spotted) (r : Runs.Spotted Item (Runs.Spot Item)) → H o r → J o r) → Founds H t tr → Founds J t tr
  weaker t tr say h n f facts ps us fine there = means (λ m g o r l k. say o r k) (h n f facts ps us fine there)

  -- ---- several

  abbrev FoundsAll : Bool → List Spotting → List (Runs.Spotting Item (Runs.Spot Item)) → Type 0
  FoundsAll b ts trs = (n : ℕ) (f : Point n) (facts : List Fact) (ps : List Part) (us : List (Run Item Item)) → AllFine q w ps us → Surrounds q w f scope
      → Beside q n f facts (each_spot ts (here q) scope ps) (Runs.spots_of trs us) (λ m g o r. AllLeft q w b o r)

  none_left : FoundsAll false [] []
  none_left n f facts ps us fine there = rests (record { found = []; left = us }) (given_back (spotted_all [] ps) fine)

  module _ (t : Spotting) (tr : Runs.Spotting Item (Runs.Spot Item)) (c : Shape) (h : Founds (LeftOf q w c) t tr) (ts : List Spotting)
      (trs : List (Runs.Spotting Item (Runs.Spot Item))) (b : Bool) (more : FoundsAll b ts trs) where
    second : {m : ℕ} {g : Point m} {fs : List Fact} (s : Spot) (sr : Runs.Spot Item) (d : Bool) (all : Option SpottedAll)
        (r : Runs.Spotted Item (List (Runs.Spot Item))) → AllLeft q w d all r
        → Beside q m g fs (with_spot s all) (Runs.spotted (sr ∷ r.found) r.left) (λ x y o e. AllLeft q w d o e)
    second s sr true all r e = absurd e
    second s sr false None r e = absurd e
    second s sr false (Some all) r e = rests (record { found = sr ∷ r.found; left = r.left }) (given_back (spotted_all (s ∷ all.spots) all.left) e)

    first : {m : ℕ} {g : Point m} {fs : List Fact} → Surrounds q w g scope → (o : Option Spotted) (r : Runs.Spotted Item (Runs.Spot Item)) → Left q w o r
        → Beside q m g fs (then_spot (λ s left. bind (each_spot ts (here q) scope left) (with_spot s)) o) (Runs.also r.found (Runs.spots_of trs r.left))
        (λ x y d e. AllLeft q w b d e)
    first there None r e = absurd e
    first {m} {g} {fs} there (Some s) r e =
        binds (with_spot s.spot) (λ all. Runs.spotted (r.found ∷ all.found) all.left) (more m g fs s.left r.left e there) (λ d p gs all x l k.
        second s.spot r.found b all x k)

    first_by : (d : Bool) → is_wrong c ≡ d → {m : ℕ} {g : Point m} {fs : List Fact} → Surrounds q w g scope → (o : Option Spotted)
        (r : Runs.Spotted Item (Runs.Spot Item)) → LeftOf q w c o r
        → Beside q m g fs (then_spot (λ s left. bind (each_spot ts (here q) scope left) (with_spot s)) o) (Runs.also r.found (Runs.spots_of trs r.left))
        (λ x y a e. AllLeft q w (d || b) a e)
    first_by true e there o r k = absurd (not_left q w c o r e k)
    first_by false e there o r k = first there o r (left_by q w c o r k)

    more_left : FoundsAll (is_wrong c || b) (t ∷ ts) (tr ∷ trs)
    more_left n f facts ps us fine there =
        binds (then_spot (λ s left. bind (each_spot ts (here q) scope left) (with_spot s))) (λ r. Runs.also r.found (Runs.spots_of trs r.left))
        (h n f facts ps us fine there) (λ m g fs o r l e. first_by (is_wrong c) refl (surrounds_on q w scope l there) o r e)

  abbrev LeftIf : Bool → Option Spotted → Runs.Spotted Item (Runs.Spot Item) → Type 0
  LeftIf true o r = ⊥
  LeftIf false o r = Left q w o r

  if_left : (b : Bool) (o : Option Spotted) (r : Runs.Spotted Item (Runs.Spot Item)) → LeftIf b o r → Left q w o r
  if_left true o r h = absurd h
  if_left false o r h = h

  tuples : (at : Place) (k : ℕ) (ts : List Spotting) (trs : List (Runs.Spotting Item (Runs.Spot Item))) (b : Bool) → FoundsAll b ts trs
      → Founds (LeftIf b) (kind_spot at k T.Tuple ts) (target_meaning (z q) w at k T.Tuple trs)
  tuples at k ts trs b h n f facts ps us fine there =
      binds (λ all. give (tuple_spotted at k all)) (λ all. Runs.spotted (Runs.tuple_spot (z q) k all.found) all.left) (h n f facts ps us fine there)
      (λ m g fs all r l e. by b all r e)
    where
      by : (d : Bool) {m : ℕ} {g : Point m} {fs : List Fact} (all : Option SpottedAll) (r : Runs.Spotted Item (List (Runs.Spot Item))) → AllLeft q w d all r
          → Beside q m g fs (give (tuple_spotted at k all)) (Runs.spotted (Runs.tuple_spot (z q) k r.found) r.left) (λ x y o c. LeftIf d o c)
      by true all r e = absurd e
      by false None r e = absurd e
      by false (Some all) r e =
          rests (record { found = Runs.tuple_spot (z q) k r.found; left = r.left }) (given_back (tuple_spotted at k (Some all)) e)

  -- ---- a part of a name

  found_left : {n : ℕ} {f : Point n} (mode : Mode q f) (v : mode.V) {m : ℕ} (g : Point m) (fs : List Fact) (o : Option Spotted)
      (r : Runs.Spotted Item (Runs.Spot Item)) → FoundSo q w scope mode v g fs o r → Left q w o r
  found_left mode v g fs None r h = absurd h
  found_left mode v g fs (Some s) r h = h.0

  of_finding : {n : ℕ} {f : Point n} (facts : List Fact) (t : Spotting) (tr : Runs.Spotting Item (Runs.Spot Item)) → Finding q w scope t tr f
      → (ps : List Part) (us : List (Run Item Item)) → AllFine q w ps us → Surrounds q w f scope
      → Beside q n f facts (t (here q) scope ps) (tr us) (λ m g o r. Left q w o r)
  of_finding {n} {f} facts t tr found ps us fine there = record {
    run = λ now stands met ok.
        let v = found.mode.first now ok in
        ends_with (λ p x h. found_left found.mode v.0 p _ (t (here q) scope ps facts n).value x h)
        ((found.finds v.0 v.1 n f facts ps us (no_later f) fine there).run now stands met ok);
  }

  -- ---- each target

  abbrev FoundSoIt : Target → Type 0
  FoundSoIt t = Founds (LeftOf q w (shape t)) (spotting t) (runs t)

  abbrev Such : Type 0
  Such = (t : Target) × FoundSoIt t

  abbrev targets_of : List Such → List Target
  targets_of ys = map (λ (y : Such). y.0) ys

  abbrev shapes_of : List Such → List Shape
  shapes_of ys = map shape (targets_of ys)

  each_left : (ys : List Such) → FoundsAll (list_any is_wrong (shapes_of ys)) (map spotting (targets_of ys)) (map runs (targets_of ys))
  each_left [] = none_left
  each_left (y ∷ ys) =
      more_left (spotting y.0) (runs y.0) (shape y.0) y.1 (map spotting (targets_of ys)) (map runs (targets_of ys)) (list_any is_wrong (shapes_of ys))
      (each_left ys)

  -- what isn't an item is refused
  some_wrong : (cs : List Shape) → list_all is_item cs ≡ false → list_any is_wrong cs ≡ true
  some_wrong [] e = absurd (cc)
  some_wrong (a_wrong ∷ cs) e = refl
  some_wrong (a_name ∷ cs) e = some_wrong cs e
  some_wrong (a_part ∷ cs) e = some_wrong cs e
  some_wrong (a_call ∷ cs) e = some_wrong cs e
  some_wrong (a_late ∷ cs) e = some_wrong cs e
  some_wrong (a_tuple ∷ cs) e = some_wrong cs e
  some_wrong (a_parted ∷ cs) e = some_wrong cs e

  module _ (at : Place) (k : ℕ) where
    module _ (ys : List Such) where
      abbrev cs : List Shape
      cs = shapes_of ys

      tuple_of : Founds (LeftIf (list_any is_wrong cs)) (kind_spot at k T.Tuple (map spotting (targets_of ys)))
          (target_meaning (z q) w at k T.Tuple (map runs (targets_of ys)))
      tuple_of = tuples at k (map spotting (targets_of ys)) (map runs (targets_of ys)) (list_any is_wrong cs) (each_left ys)

      abbrev walk_tuple : Spotting
      walk_tuple = kind_spot at k T.Tuple (map spotting (targets_of ys))

      abbrev run_tuple : Runs.Spotting Item (Runs.Spot Item)
      run_tuple = target_meaning (z q) w at k T.Tuple (map runs (targets_of ys))

      tuple_by : (m i : Bool) → list_all is_item cs ≡ i → Founds (LeftOf q w (if m then a_tuple else if i then a_parted else a_wrong)) walk_tuple run_tuple
      tuple_by true i e = weaker walk_tuple run_tuple (if_left (list_any is_wrong cs)) tuple_of
      tuple_by false true e = weaker walk_tuple run_tuple (if_left (list_any is_wrong cs)) tuple_of
      tuple_by false false e = weaker walk_tuple run_tuple (λ o r h. subst (λ b. LeftIf b o r) (some_wrong cs e) h) tuple_of

    abbrev PartOf : List Suffix → Target → Shape → Type 0
    PartOf ss t c = Founds (LeftOf q w c) (kind_spot at k (T.Part ss) (spotting t ∷ [])) (target_meaning (z q) w at k (T.Part ss) (runs t ∷ []))

    of_base : (ss : List Suffix) (t : Target) (base_at : Place) (b : ℕ) (kind : TargetKind)
        → t ≡ roll-Target (record { place = base_at; number = b; kind = kind; parts = [] }) → (c : Shape)
        → Founds (LeftOf q w c) (kind_spot at k (T.Part ss) (kind_spot base_at b kind [] ∷ []))
        (target_meaning (z q) w at k (T.Part ss) (target_meaning (z q) w base_at b kind [] ∷ [])) → PartOf ss t c
    of_base ss t base_at b kind e c h =
        subst (λ (s : Spotting). Founds (LeftOf q w c) (kind_spot at k (T.Part ss) (s ∷ [])) (target_meaning (z q) w at k (T.Part ss) (runs t ∷ [])))
        (sym (ap spotting e ∙ fold-roll-Target Spotting (λ u. kind_spot u.place u.number u.kind u.parts) _))
        (subst (λ (s : Runs.Spotting Item (Runs.Spot Item)). Founds (LeftOf q w c) (kind_spot at k (T.Part ss) (kind_spot base_at b kind [] ∷ []))
        (target_meaning (z q) w at k (T.Part ss) (s ∷ [])))
        (sym (ap runs e ∙ fold-roll-Target (Runs.Spotting Item (Runs.Spot Item)) (λ u. target_meaning (z q) w u.place u.number u.kind u.parts) _)) h)

    -- what is found of a part or a tuple has no part
    closed_by : (ss : List Suffix) (t : Target) → ((ps : List Part) → Gives (NoParts q scope) (spotting t (here q) scope ps))
        → Founds (Left q w) (spotting t) (runs t) → PartOf ss t a_wrong
    closed_by ss t none h =
        part_refused at k ss (spotting t) (runs t) (λ n f facts ps us fine there.
        with_known (NoParts q scope) (none ps facts n) (h n f facts ps us fine there))

    part_no_part : (t : Target) (base_at : Place) (b : ℕ) (ss : List Suffix) (base : Target)
        → t ≡ roll-Target (record { place = base_at; number = b; kind = T.Part ss; parts = base ∷ [] }) → (ps : List Part)
        → Gives (NoParts q scope) (spotting t (here q) scope ps)
    part_no_part t base_at b ss base e ps =
        subst (λ (s : Spotting). Gives (NoParts q scope) (s (here q) scope ps))
        (sym (ap spotting e ∙ fold-roll-Target Spotting (λ u. kind_spot u.place u.number u.kind u.parts) _))
        (part_target_no q scope base_at b ss (spotting base) ps)

    tuple_no_part : (t : Target) (base_at : Place) (b : ℕ) (parts : List Target)
        → t ≡ roll-Target (record { place = base_at; number = b; kind = T.Tuple; parts = parts }) → (ps : List Part)
        → Gives (NoParts q scope) (spotting t (here q) scope ps)
    tuple_no_part t base_at b parts e ps =
        subst (λ (s : Spotting). Gives (NoParts q scope) (s (here q) scope ps))
        (sym (ap spotting e ∙ fold-roll-Target Spotting (λ u. kind_spot u.place u.number u.kind u.parts) _))
        (tuple_target_no q scope base_at b (map spotting parts) ps)

    part_by : (ss : List Suffix) (t : Target) (c : Shape) → ShapeIs t c → Founds (LeftOf q w c) (spotting t) (runs t) → PartOf ss t (part_form ss c)
    part_by ss t a_name h one =
        of_base ss t h.place h.number h.kind h.same a_part (λ n f facts ps us fine there.
        of_finding facts _ _ (part_finding q w narrow closed scope f there at k h.place h.number ss h.kind h.is_name) ps us fine there)
    part_by [] t a_call h one =
        of_base [] t h.place h.number (T.Call h.count h.reader h.writer) h.same a_wrong
        (none_of_call at k h.place h.number h.count h.reader h.writer)
    part_by (s ∷ ss) t a_call h one =
        of_base (s ∷ ss) t h.place h.number (T.Call h.count h.reader h.writer) h.same a_late
        (part_of_call at k s ss h.place h.number h.count h.reader h.writer)
    part_by ss t a_part h one = closed_by ss t (part_no_part t h.place h.number h.suffixes h.base h.same) one
    part_by ss t a_late h one = closed_by ss t (part_no_part t h.place h.number (h.suffix ∷ h.suffixes) h.base h.same) one
    part_by ss t a_tuple h one = closed_by ss t (tuple_no_part t h.place h.number h.parts h.same) one
    part_by ss t a_parted h one = closed_by ss t (tuple_no_part t h.place h.number h.parts h.same) one
    part_by ss t a_wrong h one = part_refused at k ss (spotting t) (runs t) (weaker (spotting t) (runs t) (λ o r x. absurd x) one)

    form_by : (kind : TargetKind) (ys : List Such)
        → Founds (LeftOf q w (shape_form kind (shapes_of ys))) (kind_spot at k kind (map spotting (targets_of ys)))
        (target_meaning (z q) w at k kind (map runs (targets_of ys)))
    form_by (T.Variable name) [] = once_left (held_spot (here q) at k name (held_in name scope)) (Runs.variable_spot (z q) k name)
    form_by (T.Register i) [] = once_left (register_spot (here q) at k (slice_get q.set.around.registers i)) (Runs.register_spot (z q) w k i)
    form_by (T.Call count reader writer) [] = calls at k count reader writer
    form_by T.Tuple ys = tuple_by ys (list_all is_member (shapes_of ys)) (list_all is_item (shapes_of ys)) refl
    form_by (T.Part ss) (y ∷ []) = part_by ss y.0 (shape y.0) (shape_is y.0) y.1
    form_by (T.Part ss) [] = refused at (target_meaning (z q) w at k (T.Part ss) [])
    form_by (T.Part ss) (y ∷ x ∷ ys) = refused at (target_meaning (z q) w at k (T.Part ss) (map runs (targets_of (y ∷ x ∷ ys))))
    form_by (T.Variable name) (y ∷ ys) = refused at (target_meaning (z q) w at k (T.Variable name) (map runs (targets_of (y ∷ ys))))
    form_by (T.Register i) (y ∷ ys) = refused at (target_meaning (z q) w at k (T.Register i) (map runs (targets_of (y ∷ ys))))
    form_by (T.Call count reader writer) (y ∷ ys) =
        refused at (target_meaning (z q) w at k (T.Call count reader writer) (map runs (targets_of (y ∷ ys))))

  step : (y : Target-F Such) → FoundSoIt (roll-Target (map-Target Such Target (λ p. p.0) y))
  step y =
      let t = map-Target Such Target (λ p. p.0) y in
      let same = fold-roll-Target Shape (λ u. shape_form u.kind u.parts) t in
      subst (λ (c : Shape). Founds (LeftOf q w c) (spotting (roll-Target t)) (runs (roll-Target t))) (sym same)
      (subst (λ (s : Spotting). Founds (LeftOf q w (shape_form y.kind (shapes_of y.parts))) s (runs (roll-Target t)))
      (sym (fold-roll-Target Spotting (λ u. kind_spot u.place u.number u.kind u.parts) t))
      (subst (λ (s : Runs.Spotting Item (Runs.Spot Item)). Founds (LeftOf q w (shape_form y.kind (shapes_of y.parts)))
      (kind_spot y.place y.number y.kind (map spotting (targets_of y.parts))) s)
      (sym (fold-roll-Target (Runs.Spotting Item (Runs.Spot Item)) (λ u. target_meaning (z q) w u.place u.number u.kind u.parts) t))
      (form_by y.place y.number y.kind y.parts)))

  any_found : (t : Target) → FoundSoIt t
  any_found = ind-Target FoundSoIt (λ e y same_form. subst (λ d. FoundSoIt (roll-Target d)) same_form (step y))

  pub wrong_found : (t : Target) → shape t ≡ a_wrong → Founds (λ o r. ⊥) (spotting t) (runs t)
  wrong_found t e = subst (λ c. Founds (LeftOf q w c) (spotting t) (runs t)) e (any_found t)
