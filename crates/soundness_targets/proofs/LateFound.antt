-- A part of what a call gives, up to the value: the call is read beforehand, then come the indexes, the ways and the value, in a pass that knows what the
-- read gives as in one that doesn't.
use Rattle.std.proofs.Common.{◌≡◌, ◌∙◌, ◌≤◌, ◌++◌, ◌-◌, ℕ, Bool, true, false, List, [], ◌∷◌, drop, if◌then◌else◌, length, take, Option, Some}
use Rattle.std.proofs.Common.{None, refl, sym, ap, subst}
use Rattle.std.specs.Prelude.{replicate}
use Rattle.std.proofs.lemmas.Bool.{lt-ltb}
use Rattle.sail_base.specs.declared.place.Place.{Place}
use Rattle.sail_types.specs.declared.numbers.Num.{Num}
use Rattle.sail_types.specs.declared.values.Value.{Value}
use Rattle.sail_core.specs.Making.{World}
use Rattle.sail_core.specs.Run.{Now, Run, ◌then◌}
use Rattle.sail_core.specs.Targets as Runs
use Rattle.sail_core.specs.Targets.{ways_of}
use Rattle.sail_core.specs.Values.{Into}
use Rattle.sail_core.specs.declared.targets.Caller.{Caller}
use Rattle.sail_core.specs.declared.targets.Suffix.{Suffix}
use Rattle.value_indices.specs.Steps.{Walk, bind, conditions, give, next_variable, scoped}
use Rattle.value_indices.specs.declared.indices.Indices.{Indices}
use Rattle.value_indices.specs.declared.indices.Reading.{Reading}
use Rattle.value_indices.specs.declared.indices.Reading.TheVariants as R
use Rattle.value_indices.specs.declared.notes.Fact.{Fact}
use Rattle.pattern_leaves.specs.Settings.{Scope}
use Rattle.call_arguments.specs.Aims.{aimed}
use Rattle.call_arguments.specs.Holes.{value_has_hole}
use Rattle.call_arguments.specs.declared.aims.Aim.TheVariants as Aims
use Rattle.call_notes.specs.Calls.{called}
use Rattle.expression_forms.specs.Spots.{Spot, call_spot, in_force, is_late_wanted, late_bound, late_part, late_spot, owes_itself, wrong_spot}
use Rattle.expression_forms.specs.declared.spots.Known.{Known}
use Rattle.expression_forms.specs.declared.ways.Reached.{Reached}
use Rattle.expression_steps.specs.Calls.{nestings}
use Rattle.expression_steps.specs.Parts.{Part, numbers_walk}
use Rattle.expression_steps.specs.Targets.{Spotted, ahead, each_late, is_short, known_late, late_count, late_reached, late_spotted}
use Rattle.expression_steps.specs.Targets.{numbered_late, part_late, read_ahead, spotted}
use Rattle.expression_steps.specs.declared.late.Ahead.{Ahead}
use Rattle.expression_steps.specs.declared.late.Late.{Late}
use Rattle.checked_meaning.specs.Checked.{Noted}
use Rattle.checked_meaning.specs.Items.{Item}
use Rattle.value_laws.specs.Belonging.{Integers, standing}
use Rattle.value_laws.specs.Known.{Agree, AllTrue, Point, given_in}
use Rattle.value_laws.proofs.Steps.{same}
use Rattle.fitting_laws.proofs.Joining.{true_both}
use Rattle.soundness_steps.specs.Noted.{EachNoted}
use Rattle.soundness_steps.specs.Points.{Later}
use Rattle.soundness_steps.specs.Steps.{Beside, Stands, Walks}
use Rattle.soundness_steps.specs.Values.{AimSteady, IsWanted}
use Rattle.soundness_steps.specs.Works.{Scene, here}
use Rattle.soundness_steps.proofs.Points.{agree_on, later_on, later_whole, no_later, whole}
use Rattle.soundness_steps.proofs.Steps.{grown, grown_later, met_front, stands_on, walks_mean, walks_then}
use Rattle.soundness_forms.specs.Calls.{CalleeFits}
use Rattle.soundness_forms.specs.Forms.{AllFine, FitsSuffice}
use Rattle.soundness_forms.specs.Mappings.{MappingsClosed}
use Rattle.soundness_forms.specs.Worlds.{Surrounds}
use Rattle.soundness_forms.proofs.Basics.{has_on, then_walks}
use Rattle.soundness_forms.proofs.Leaving.{aimed_is}
use Rattle.soundness_forms.proofs.Worlds.{surrounds_on}
use Rattle.soundness_parts.proofs.Taken.{z}
use Rattle.soundness_values.specs.Named.{TypesNarrow}
use Rattle.soundness_targets.proofs.CallGrowth.{called_grows}
use Rattle.soundness_targets.proofs.FreeCalls.{called_free}
use Rattle.soundness_targets.proofs.FreeWays.{part_late_quiet}
use Rattle.soundness_targets.proofs.LateGrowth.{part_late_grows}
use Rattle.soundness_targets.proofs.LateIndexes.{Indexed, WaysAre, all_indexed}
use Rattle.soundness_targets.proofs.LateSteady.{AllFixed, bound_fixed, late_steady}
use Rattle.soundness_targets.proofs.LateKnown.{LateIs, late_found, part_ways}
use Rattle.soundness_targets.proofs.LateWrites.{Arguments, Foresight, Read, given_behind, given_both, true_behind}
use Rattle.soundness_targets.proofs.Named.{none_aimed}
use Rattle.soundness_targets.proofs.PartAssigned.{split_last}
use Rattle.soundness_targets.proofs.Spots.{WayThere, way_on}

-- ---- numbers as the integers of a point have them

fixed_each : (noted : Noted) (c d : Integers) (vs : List ℕ) → EachNoted noted c vs → EachNoted noted d vs → EachNoted (λ v. Some (d v)) c vs
fixed_each noted c d [] h k = tt
fixed_each noted c d (v ∷ vs) h k = (sym k.0 ∙ h.0, fixed_each noted c d vs h.1 k.1)

abbrev as_fixed : {n : ℕ} → Point n → Noted
as_fixed p v = Some (p.integers v)

-- so all stands where a read was so before
module _ (q : Scene) {noted other : Noted} {n m : ℕ} {f : Point n} {p : Point m} (facts known now : List Fact) where
  stands_all : Stands q.set q.work other f (facts ++ known) → Later f p → Stands q.set q.work noted p now
      → Stands q.set q.work (as_fixed p) p (now ++ known)
  stands_all read l s = record {
    there = λ c a.
        let before = s.there c a in
        let r = read.there c (agree_on l a) in
        let mu = standing q.set.past c in
        record {
          numbers = before.numbers;
          true_there = true_both mu now known before.true_there (true_behind mu facts known r.true_there);
          given = given_both (as_fixed p) c now known
              (fixed_each noted c p.integers (given_in now) before.given (s.there p.integers (same p)).given)
              (fixed_each other c p.integers (given_in known) (given_behind other c facts known r.given)
              (given_behind other p.integers facts known (read.there p.integers (agree_on l (same p))).given));
        };
  }

module _ (fit : FitsSuffice) (q : Scene) (w : World Item) (narrow : TypesNarrow q.set.around.types) (places : (i : ℕ) → CalleeFits q.set i)
    (mappings : MappingsClosed q.set) (scope : Scope) (at : Place) (k : ℕ) (r : Suffix) (ss : List Suffix) (base_at : Place) (kb : ℕ) (asker : Caller)
    (writer : Caller) (ps : List Part) (is : List Indices)
    (xs : List Item) {m0 : ℕ} {g : Point m0} (facts0 : List Fact) (there : Surrounds q w g scope)
    (each : Arguments fit q w places mappings scope base_at kb writer ps is xs g) where
  abbrev pub suffixes : List Suffix
  suffixes = r ∷ ss

  abbrev pub last : Suffix
  last = (split_last r ss).0

  -- where it owes
  abbrev pub own_place : Place
  own_place = if owes_itself last.way then last.place else at

  abbrev pub base : Spot
  base = call_spot (here q) base_at kb (Some asker) writer (nestings ps) is

  abbrev pub reads : Walk Indices
  reads = called (here q) base_at asker.number asker.callee (replicate (length is) false) is

  abbrev pub held : Indices
  held = (reads facts0 m0).value

  abbrev pub known : List Fact
  known = (reads [] m0).facts

  abbrev pub ahead_there : Ahead
  ahead_there = ahead m0 held known

  -- ---- what is known beforehand of the read

  abbrev pub Foreseen : Type 0
  Foreseen = Foresight fit q w places mappings scope base_at kb writer ps is xs asker facts0 there each

  abbrev pub ReadAt : Now Item → Type 0
  ReadAt now = Read fit q w places mappings scope base_at kb writer ps is xs asker facts0 there each now

  pub read_facts : (reads facts0 m0).facts ≡ facts0 ++ known
  read_facts = (called_free (here q) base_at asker.number asker.callee (replicate (length is) false) is).facts facts0 m0

  reads_on : m0 ≤ (reads facts0 m0).next
  reads_on = (called_grows (here q) base_at asker.number asker.callee (replicate (length is) false) is).onward facts0 m0

  -- a point behind it
  abbrev pub Behind : Foreseen → {n : ℕ} → Point n → Type 0
  Behind None f = Unit {0}
  Behind (Some v) f = Later v.1.point f

  behind_on : (v : Foreseen) {n m : ℕ} {f : Point n} {p : Point m} → Later f p → Behind v f → Behind v p
  behind_on None l h = tt
  behind_on (Some v) l h = later_on h l

  pub ahead_walks : (v : Foreseen) → Walks q m0 g facts0 (read_ahead base) (λ m p a. (a ≡ ahead_there) × Behind v p)
  unfolding bind next_variable scoped give
  ahead_walks None = record {
    go = λ noted stands met.
        let l = grown_later g reads_on in
        record { point = grown g reads_on; later = l; stands = stands_on l stands; holds = (refl, tt) };
  }
  ahead_walks (Some v) = record {
    go = λ noted stands met. record {
      point = v.1.point;
      later = v.1.later;
      stands = stands_on v.1.later stands;
      holds = (refl, no_later v.1.point);
    };
  }

  -- ---- the spot

  abbrev pub spot_at : Option Reached → Known → Spot
  spot_at None kn = wrong_spot own_place
  spot_at (Some x) kn = late_spot (here q) own_place k base held x kn

  -- what the walk gives where the value has no hole, and where it has one
  late_is : value_has_hole held ≡ false → (x : Option Reached) (kn : Known) → late_part (here q) own_place k base held x kn ≡ spot_at x kn
  late_is e None kn = refl
  late_is e (Some x) kn = λ j. if e j then wrong_spot own_place else late_spot (here q) own_place k base held x kn

  pub hole_is : value_has_hole held ≡ true → (x : Option Reached) (kn : Known) → late_part (here q) own_place k base held x kn ≡ wrong_spot own_place
  hole_is e None kn = refl
  hole_is e (Some x) kn = λ j. if e j then wrong_spot own_place else late_spot (here q) own_place k base held x kn

  -- what is known of the ways where the read is known
  pub record WaysKnown (now : Now Item) (v : ReadAt now) {n : ℕ} (f : Point n) (x : Option Reached) (kn : Known) (ts : List Into) : Type 0 where
    pub later : Later v.point f
    pub ways : List Fact
    pub is_known : kn.facts ≡ known ++ ways
    pub none : given_in ways ≡ []
    pub are_true : (c : Integers) → Agree f c → AllTrue (standing q.set.past c) (conditions ways)
    pub way : WayThere q f held v.old.val ts x

  abbrev pub Foresees : Foreseen → {n : ℕ} → Point n → Option Reached → Known → List Into → Type 0
  Foresees None f x kn ts = Unit {0}
  Foresees (Some v) f x kn ts = WaysKnown v.0 v.1 f x kn ts

  abbrev pub SpotIs : Foreseen → {n : ℕ} → Point n → Option Spotted → List Part → List Into → Type 0
  SpotIs v f o left ts =
      (x : Option Reached) × (kn : Known) × (o ≡ spotted (spot_at x kn) left) × AimSteady q.set q.work f (aimed Aims.Given (spot_at x kn).typ)
      × Foresees v f x kn ts

  there_on : {n m : ℕ} {f : Point n} {p : Point m} (u : Value) (ts : List Into) (x : Option Reached) → Later f p → WayThere q f held u ts x
      → WayThere q p held u ts x
  there_on u ts None l h = tt
  there_on u ts (Some x) l h = way_on q l h

  pub foresees_on : (v : Foreseen) {n m : ℕ} {f : Point n} {p : Point m} (x : Option Reached) (kn : Known) (ts : List Into) → Later f p
      → Foresees v f x kn ts → Foresees v p x kn ts
  foresees_on None x kn ts l h = tt
  foresees_on (Some v) x kn ts l h = record {
    later = later_on h.later l;
    ways = h.ways;
    is_known = h.is_known;
    none = h.none;
    are_true = λ c a. h.are_true c (agree_on l a);
    way = there_on v.1.old.val ts x l h.way;
  }

  -- what is wanted of the value is steady
  unknown_steady : {n : ℕ} (f : Point n) (kn : Known) → AllFixed f kn.before → (x : Option Reached)
      → AimSteady q.set q.work f (aimed Aims.Given (spot_at x kn).typ)
  unknown_steady f kn all None = subst (AimSteady q.set q.work f) (sym none_aimed) tt
  unknown_steady f kn all (Some x) = late_steady q f kn.before all x.typ

  wanted_steady : {n : ℕ} (f : Point n) (b : Bool) (t : Reading) → IsWanted q.set q.work f t
      → AimSteady q.set q.work f (aimed Aims.Given (if b then t else R.Hole))
  wanted_steady f true t h = subst (AimSteady q.set q.work f) (sym (aimed_is Aims.Given t h.1)) h
  wanted_steady f false t h = subst (AimSteady q.set q.work f) (sym none_aimed) tt

  known_steady : {n : ℕ} (f : Point n) (kn : Known) (u : Value) (ts : List Into) (x : Option Reached) → WayThere q f held u ts x
      → AimSteady q.set q.work f (aimed Aims.Given (spot_at x kn).typ)
  known_steady f kn u ts None h = subst (AimSteady q.set q.work f) (sym none_aimed) tt
  known_steady f kn u ts (Some x) h = wanted_steady f (is_late_wanted kn.before x.typ) x.typ h.wanted

  -- ---- the ways

  abbrev pub ways_walk : List Num → Walk (Option Late)
  ways_walk ns = part_late at suffixes (here q) ns held

  abbrev pub known_ways : List Num → ℕ → List Fact
  known_ways ns n = (ways_walk ns [] n).facts

  abbrev pub known_at : List Num → ℕ → Known
  known_at ns n = record { before = late_bound m0 n held; facts = known ++ known_ways ns n }

  pub part_by : (ns : List Num) (n : ℕ) (left : List Part) (o : Option Late) (x : Option Reached) → o ≡ Some (late_reached last x)
      → late_spotted at (here q) k base ahead_there n (known_ways ns n) left o
      ≡ spotted (late_part (here q) own_place k base held x (known_at ns n)) left
  part_by ns n left o x e = λ j. late_spotted at (here q) k base ahead_there n (known_ways ns n) left (e j)

  module _ (no_hole : value_has_hole held ≡ false) where
    spot_by : (ns : List Num) (n : ℕ) (left : List Part) (o : Option Late) (x : Option Reached) → o ≡ Some (late_reached last x)
        → late_spotted at (here q) k base ahead_there n (known_ways ns n) left o ≡ spotted (spot_at x (known_at ns n)) left
    spot_by ns n left o x e = part_by ns n left o x e ∙ ap (λ c. spotted c left) (late_is no_hole x (known_at ns n))

    late_spots : (v : Foreseen) {n : ℕ} {p : Point n} {fs : List Fact} (left : List Part) (ns : List Num) (ts : List Into) → m0 ≤ n → Behind v p
        → WaysAre q p suffixes ns ts → Walks q n p fs (known_late at k suffixes (here q) base ahead_there left ns) (λ m c o. SpotIs v c o left ts)
    unfolding bind give scoped in_force next_variable
    late_spots None {n} {p} {fs} left ns ts on h ways = record {
      go = λ noted stands met.
          let more = (part_late_grows (here q) at suffixes ns held).onward (fs ++ known) n in
          let point = grown (whole p) more in
          let later = later_on (later_whole p) (grown_later (whole p) more) in
          let x = late_found (here q) at ns held r ss (fs ++ known) n in
          record {
            point = point;
            later = later;
            stands = stands_on later stands;
            holds = (
              x.0,
              known_at ns n,
              spot_by ns n left (ways_walk ns (fs ++ known) n).value x.0 x.1,
              unknown_steady point (known_at ns n) (bound_fixed point m0 n held on (λ i l. lt-ltb i n l)) x.0,
              tt,
            );
          };
    }
    late_spots (Some v) {n} {p} {fs} left ns ts on h ways = record {
      go = λ noted stands met.
          let there_so : Stands q.set q.work v.1.after.opened v.1.point (facts0 ++ known) =
          subst (Stands q.set q.work v.1.after.opened v.1.point) read_facts v.1.stands in
          let all_so : Stands q.set q.work (as_fixed p) p (fs ++ known) = stands_all q facts0 known fs there_so h stands in
          let found : Walks q n p (fs ++ known) (ways_walk ns) (λ m c o. LateIs q w scope narrow last c held v.1.old.val ts o) =
          part_ways q w scope narrow at r ss ns ts held v.1.old.val ways (has_on h v.1.is_old.has) no_hole in
          let x = found.go (as_fixed p) all_so (met_front q (ways_walk ns (fs ++ known) n).notes [] met) in
          record {
            point = x.point;
            later = x.later;
            stands = stands_on x.later stands;
            holds = (
              x.holds.0,
              known_at ns n,
              spot_by ns n left (ways_walk ns (fs ++ known) n).value x.holds.0 x.holds.1,
              known_steady x.point (known_at ns n) v.1.old.val ts x.holds.0 x.holds.2,
              record {
                later = later_on h x.later;
                ways = known_ways ns n;
                is_known = refl;
                none = (part_late_quiet at suffixes (here q) ns held).none n;
                are_true = λ c a.
                    true_behind (standing q.set.past c) (fs ++ known) (known_ways ns n)
                    (subst (λ gs. AllTrue (standing q.set.past c) (conditions gs))
                    ((part_late_quiet at suffixes (here q) ns held).free.facts (fs ++ known) n) (x.stands.there c a).true_there);
                way = x.holds.2;
              },
            );
          };
    }

    -- ---- from the read to the spot

    module _ (left : List Part) where
      abbrev indexes : Walk (Option (List Num))
      indexes = numbers_walk (take (late_count suffixes left) left) (here q) scope

      abbrev behind : List Part
      behind = drop (late_count suffixes left) left

      abbrev pub Spots : Foreseen → {n : ℕ} → Point n → Option Spotted → Runs.Spotted Item (List Into) → Type 0
      Spots v f o t = AllFine q w behind t.left × SpotIs v f o behind t.found

      spots_by : (v : Foreseen) {n : ℕ} {p : Point n} {fs : List Fact} (o : Option (List Num)) (t : Runs.Spotted Item (List Into)) → m0 ≤ n → Behind v p
          → Indexed q w scope suffixes behind p o t
          → Walks q n p fs (numbered_late at k suffixes (here q) base behind ahead_there o) (λ m c s. Spots v c s t)
      spots_by v None t on h e = absurd e
      spots_by v (Some ns) t on h e = walks_mean (λ m c o s. (e.1, s)) (late_spots v behind ns t.found on h e.0)

      abbrev pub walk_spot : Walk (Option Spotted)
      walk_spot = each_late at k suffixes (here q) scope base left

      abbrev numbers_then : Ahead → Walk (Option Spotted)
      numbers_then a = bind indexes (numbered_late at k suffixes (here q) base behind a)

      module _ (enough : is_short suffixes (length left) ≡ false) (us : List (Run Item Item)) (fine : AllFine q w left us) where
        numbered_runs : (v : Foreseen) {n : ℕ} {p : Point n} {fs : List Fact} → Later g p → Behind v p
            → Beside q n p fs (numbers_then ahead_there) (ways_of (z q) suffixes us) (λ m c o t. Spots v c o t)
        numbered_runs v {n} {p} {fs} l h =
            then_walks (numbered_late at k suffixes (here q) base behind ahead_there)
            (all_indexed q w scope suffixes n p fs left us enough fine (surrounds_on q w scope l there)) (λ m c gs o t l2 e.
            spots_by v o t (later_on l l2).onward (behind_on v l2 h) e)

        pub spots_late : (v : Foreseen) → Beside q m0 g facts0 walk_spot (ways_of (z q) suffixes us) (λ m c o t. Spots v c o t)
        spots_late v =
            walks_then numbers_then (ahead_walks v) (λ m p fs a l h.
            subst (λ b. Beside q m p fs (numbers_then b) (ways_of (z q) suffixes us) (λ d c o t. Spots v c o t)) (sym h.0) (numbered_runs v l h.1))
