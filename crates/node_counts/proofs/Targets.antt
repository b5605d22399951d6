-- Targets of assignments, and the assignments to them, note no more than their parts and their own numbers.
use Rattle.std.proofs.Common.{◌≡◌, ℕ, ◌+◌, ◌-◌, ◌≤◌, Bool, true, false, List, [], ◌∷◌, ◌++◌, length, map, take, drop}
use Rattle.std.proofs.Common.{Option, Some, None, slice_get, if◌then◌else◌, sym, subst, refl, arith}
use Rattle.sail_base.specs.declared.place.Place.{Place}
use Rattle.sail_types.specs.declared.numbers.Num.{Num}
use Rattle.sail_core.specs.Nodes.{caller_numbers, joined, target_kind_numbers, target_numbers}
use Rattle.sail_core.specs.declared.targets.Caller.{Caller}
use Rattle.sail_core.specs.declared.targets.Suffix.{Suffix}
use Rattle.sail_core.specs.declared.targets.Target.{Target, Target-F, fold-roll-Target, ind-Target, map-Target, roll-Target}
use Rattle.sail_core.specs.declared.targets.TargetKind.{TargetKind}
use Rattle.sail_core.specs.declared.targets.TargetKind.TheVariants as T
use Rattle.value_indices.specs.Steps.{bind, give, next_variable, scoped, wrong}
use Rattle.value_indices.specs.declared.indices.Indices.{Indices}
use Rattle.value_indices.specs.declared.indices.Indices.TheVariants as I
use Rattle.value_indices.specs.declared.notes.Fact.{Fact}
use Rattle.value_fits.specs.Fitting.{owe_fit}
use Rattle.pattern_leaves.specs.Settings.{Around, Scope, held_in}
use Rattle.call_arguments.specs.Aims.{aimed}
use Rattle.call_arguments.specs.declared.aims.Aim.TheVariants as Aims
use Rattle.call_notes.specs.Calls.{callee_types}
use Rattle.expression_forms.specs.Spots.{Spot, call_spot}
use Rattle.expression_forms.specs.Spots.{held_spot, in_force, late_part, owed_answer}
use Rattle.expression_forms.specs.Spots.{part_spot, register_spot, tuple_spot}
use Rattle.expression_forms.specs.Spots.{written_by}
use Rattle.expression_forms.specs.Ways.{suffix_read}
use Rattle.expression_steps.specs.Calls.{arguments_walk, nestings}
use Rattle.expression_steps.specs.Parts.{Part, numbers_walk}
use Rattle.expression_steps.specs.Targets.{Spotted, SpottedAll, Spotting, assigned, assigned_one, assigned_to, call_spotted, call_target, each_late}
use Rattle.expression_steps.specs.Targets.{each_spot, has_no_way, its_numbers, kind_spot, last_late, late_place, last_suffix, late_count, late_spotted, no_spot}
use Rattle.expression_steps.specs.Targets.{numbered_late, other_numbers, part_late, part_of, part_spotted}
use Rattle.expression_steps.specs.Targets.{part_within, read_ahead, read_late, spotted, spotted_all}
use Rattle.expression_steps.specs.Targets.{spotting, suffixes_late, suffixes_spot, then_assigned, then_spot, tuple_spotted, ways_late, with_spot}
use Rattle.expression_steps.specs.Values.{Passed, Taken, reached_by, suffixes_walk, then_on, way_walk}
use Rattle.expression_steps.specs.declared.late.Ahead.{Ahead}
use Rattle.expression_steps.specs.declared.late.Late.{Late}
use Rattle.node_counts.specs.Counts.{Counted, own, times, weigh}
use Rattle.node_counts.proofs.Budgets.{Leaves, leaves_beside, leaves_bind, leaves_give, leaves_more, leaves_rest, within_left, within_scoped}
use Rattle.node_counts.proofs.Nodes.{In, fit_light, in_both, in_first, in_give, in_last, in_more, next_light}
use Rattle.node_counts.proofs.Nodes.{owes_light, wrong_in}
use Rattle.node_counts.proofs.Parts.{Costed, dropped_parts, numbers_in, parts_of, taken_parts, total, walk_in}
use Rattle.node_counts.proofs.Values.{PassedLeft, TakenLeft, reached_light, suffix_in, suffixes_left, suffixes_own, way_left}
use Rattle.node_counts.proofs.Trees.{TargetsIn, times_both}
use Rattle.node_counts.proofs.Parts.{each_in}
use Rattle.node_counts.proofs.Spots.{AllLeft, SpotIn, SpottedLeft, SpottingIn, behind_front, call_in_spot, force_light, held_in_spot, late_part_in}
use Rattle.node_counts.proofs.Spots.{more_spot, no_spot_left, part_in_spot, register_in_spot, tuple_in_spot}

module _ (q : Counted) where
  -- ---- a spot and the parts that are left

  spot_given : (b d : ℕ) (s : Spot) (zs : List (Costed q)) (left : List Part) → SpotIn q b s → parts_of q zs ≡ left → b + total q zs ≤ d
      → Leaves (weigh q) d (give (spotted s left)) (SpottedLeft q)
  spot_given b d s zs left h e l = leaves_give (weigh q) (SpottedLeft q) d (spotted s left) (b, zs, h, e, l)

  abbrev call_cost : ℕ → ℕ → Option Caller → Caller → ℕ
  call_cost k count reader writer = own q k + times q (target_kind_numbers (T.Call count reader writer))

  call_budget : (k count : ℕ) (reader : Option Caller) (writer : Caller)
      → own q k + (times q (caller_numbers reader) + own q writer.number) ≤ call_cost k count reader writer
  call_budget k count reader writer =
      let s : times q (caller_numbers reader ++ caller_numbers (Some writer)) ≡ times q (caller_numbers reader) + times q (caller_numbers (Some writer)) =
      times_both q (caller_numbers reader) (caller_numbers (Some writer)) in omega (arith, s)

  call_spotted_in : (place : Place) (k count : ℕ) (reader : Option Caller) (writer : Caller)
      → SpottingIn q (call_cost k count reader writer) (call_target place k count reader writer)
  call_spotted_in place k count reader writer around scope ys parts e =
      subst (λ (ps : List Part). Leaves (weigh q) (call_cost k count reader writer + total q ys) (call_target place k count reader writer around scope ps)
      (SpottedLeft q)) e
      (behind_front q count ys (call_cost k count reader writer)
      (arguments_walk (take count (parts_of q ys)) around scope (callee_types around writer.callee))
      (call_spotted around place k count reader writer (parts_of q ys)) (SpottedLeft q)
      (subst (λ (ps : List Part). In q (total q (take count ys)) (arguments_walk ps around scope (callee_types around writer.callee)))
      (taken_parts q count ys) (each_in q (take count ys) around scope _))
      (λ is d l.
      spot_given (call_cost k count reader writer) d (call_spot around place k reader writer (nestings (take count (parts_of q ys))) is) (drop count ys)
      (drop count (parts_of q ys))
      (more_spot q (call_budget k count reader writer) (call_in_spot q around place k reader writer (nestings (take count (parts_of q ys))) is))
      (dropped_parts q count ys) l))

  -- ---- tuples

  abbrev AllSpotting : ℕ → List Spotting → Type 0
  AllSpotting b [] = Unit {0}
  AllSpotting b (t ∷ ts) = (c d : ℕ) × (c + d ≤ b) × SpottingIn q c t × AllSpotting d ts

  with_left : (c d : ℕ) (s : Spot) → SpotIn q c s → (o : Option SpottedAll) (e : ℕ) → (m : ℕ) → e ≡ c + m → AllLeft q o m
      → Leaves (weigh q) e (with_spot s o) (AllLeft q)
  with_left c d s h None e m k a = leaves_give (weigh q) (AllLeft q) e None tt
  with_left c d s h (Some all) e m k a =
      let l : a.0 + total q a.1 ≤ m = a.4 in
      leaves_give (weigh q) (AllLeft q) e (spotted_all (s ∷ all.spots) all.left)
      (c + a.0, a.1, (c, a.0, omega arith, h, a.2), a.3, omega (arith, k, l))

  then_each : (b : ℕ) (ts : List Spotting) (around : Around) (scope : Scope)
      → ((zs : List (Costed q)) (ps : List Part) → parts_of q zs ≡ ps → Leaves (weigh q) (b + total q zs) (each_spot ts around scope ps) (AllLeft q))
      → (x : Option Spotted) (m d : ℕ) → m ≡ b + d → SpottedLeft q x d
      → Leaves (weigh q) m (then_spot (λ s left. bind (each_spot ts around scope left) (with_spot s)) x) (AllLeft q)
  then_each b ts around scope again None m d k r = leaves_give (weigh q) (AllLeft q) m None tt
  then_each b ts around scope again (Some s) m d k r =
      let l : r.0 + total q r.1 ≤ d = r.4 in
      leaves_more (weigh q) {a = r.0 + (b + total q r.1)} (bind (each_spot ts around scope s.left) (with_spot s.spot)) (AllLeft q) (omega (arith, k, l))
      (leaves_bind (weigh q) (each_spot ts around scope s.left) (with_spot s.spot) (λ o e. (c : ℕ) × (e ≡ r.0 + c) × AllLeft q o c) (AllLeft q)
      (leaves_beside (weigh q) r.0 (each_spot ts around scope s.left) (AllLeft q) (again r.1 s.left r.3)) (λ o e a.
      with_left r.0 d s.spot r.2 o e a.0 a.1 a.2))

  each_left : (b : ℕ) (ts : List Spotting) → AllSpotting b ts → (around : Around) (scope : Scope) (ys : List (Costed q)) (parts : List Part)
      → parts_of q ys ≡ parts → Leaves (weigh q) (b + total q ys) (each_spot ts around scope parts) (AllLeft q)
  each_left b [] h around scope ys parts e =
      leaves_give (weigh q) (AllLeft q) _ (spotted_all [] parts) (0, ys, tt, e, omega arith)
  each_left b (t ∷ ts) h around scope ys parts e =
      let l : h.0 + h.1 ≤ b = h.2 in
      leaves_more (weigh q) {a = h.1 + (h.0 + total q ys)} (each_spot (t ∷ ts) around scope parts) (AllLeft q) (omega (arith, l))
      (leaves_bind (weigh q) (t around scope parts) (then_spot (λ s left. bind (each_spot ts around scope left) (with_spot s)))
      (λ x m. (d : ℕ) × (m ≡ h.1 + d) × SpottedLeft q x d) (AllLeft q)
      (leaves_beside (weigh q) h.1 (t around scope parts) (SpottedLeft q) (h.3 around scope ys parts e)) (λ x m r.
      then_each h.1 ts around scope (λ zs ps c. each_left h.1 ts h.4 around scope zs ps c) x m r.0 r.1 r.2))

  tuple_left : (place : Place) (k b : ℕ) (o : Option SpottedAll) (e m : ℕ) → e ≡ own q k + m → AllLeft q o m
      → Leaves (weigh q) e (give (tuple_spotted place k o)) (SpottedLeft q)
  tuple_left place k b None e m h a = leaves_give (weigh q) (SpottedLeft q) e None tt
  tuple_left place k b (Some all) e m h a =
      let l : a.0 + total q a.1 ≤ m = a.4 in
      spot_given (own q k + a.0) e (tuple_spot place k all.spots) a.1 all.left (tuple_in_spot q a.0 place k all.spots a.2) a.3 (omega (arith, h, l))

  tuple_spotting : (place : Place) (k b : ℕ) (ts : List Spotting) → AllSpotting b ts → SpottingIn q (own q k + b) (kind_spot place k T.Tuple ts)
  tuple_spotting place k b ts h around scope ys parts e =
      leaves_more (weigh q) {a = own q k + (b + total q ys)} (kind_spot place k T.Tuple ts around scope parts) (SpottedLeft q) (omega arith)
      (leaves_bind (weigh q) (each_spot ts around scope parts) (λ all. give (tuple_spotted place k all)) (λ o m. (c : ℕ) × (m ≡ own q k + c) × AllLeft q o c)
      (SpottedLeft q) (leaves_beside (weigh q) (own q k) (each_spot ts around scope parts) (AllLeft q) (each_left b ts h around scope ys parts e)) (λ o m a.
      tuple_left place k b o m a.0 a.1 a.2))

  -- ---- parts

  none_own : (ss : List Suffix) → suffixes_own q true ss ≡ 0
  none_own [] = refl
  none_own (s ∷ ss) = let e : suffixes_own q true ss ≡ 0 = none_own ss in omega (arith, e)

  module _ (around : Around) (scope : Scope) (place : Place) (k : ℕ) (base : Spot) (b : ℕ) (h : SpotIn q b base) where
    -- what pays for the part's own write, and for its base's
    abbrev rest : ℕ
    rest = own q k + (h.gives + h.renews)

    part_spotted_left : (s : Suffix) (held : Indices) (o : Option Taken) (e m : ℕ) → e ≡ rest + m → TakenLeft q o m
        → Leaves (weigh q) e (give (part_spotted around k s base held o)) (SpottedLeft q)
    part_spotted_left s held None e m is t = leaves_give (weigh q) (SpottedLeft q) e None tt
    part_spotted_left s held (Some w) e m is t =
        let l : total q t.0 ≤ m = t.2 in
        spot_given rest e (part_spot around s.place k s.way base held w.reached) t.0 w.left
        (part_in_spot q around s.place k s.way base h held w.reached) t.1 (omega (arith, is, l))

    last_left : (s : Suffix) (held : Indices) (zs : List (Costed q)) (ps : List Part) → parts_of q zs ≡ ps → (i : Indices)
        → Leaves (weigh q) (rest + total q zs) (last_suffix k s around scope base held ps i) (SpottedLeft q)
    last_left s held zs ps e i =
        subst (λ (xs : List Part). Leaves (weigh q) (rest + total q zs) (last_suffix k s around scope base held xs i) (SpottedLeft q)) e
        (leaves_bind (weigh q) (way_walk s.place (parts_of q zs) around scope i s.way) (λ w. give (part_spotted around k s base held w))
        (λ x m. (c : ℕ) × (m ≡ rest + c) × TakenLeft q x c) (SpottedLeft q)
        (leaves_beside (weigh q) rest (way_walk s.place (parts_of q zs) around scope i s.way) (TakenLeft q) (way_left q s.place zs around scope i s.way))
        (λ x m t.
        part_spotted_left s held x m t.0 t.1 t.2))

    then_last : (s : Suffix) (held : Indices) (x : Option Passed) (m d : ℕ) → m ≡ rest + d → PassedLeft q x d
        → Leaves (weigh q) m (then_on (last_suffix k s around scope base held) x) (SpottedLeft q)
    then_last s held None m d e p = leaves_give (weigh q) (SpottedLeft q) m None tt
    then_last s held (Some t) m d e p =
        let l : total q p.0 ≤ d = p.2 in
        leaves_more (weigh q) (last_suffix k s around scope base held t.left t.value) (SpottedLeft q) (omega (arith, e, l))
        (last_left s held p.0 t.left p.1 t.value)

    suffixes_spotted : (o : Option Suffix) (ss : List Suffix) (zs : List (Costed q)) (held : Indices)
        → Leaves (weigh q) (rest + total q zs) (suffixes_spot place k o ss around scope base (parts_of q zs) held) (SpottedLeft q)
    suffixes_spotted None ss zs held = no_spot_left q _ place
    suffixes_spotted (Some s) ss zs held =
        let e : suffixes_own q true ss ≡ 0 = none_own ss in
        leaves_more (weigh q) {a = rest + (suffixes_own q true ss + total q zs)} (suffixes_spot place k (Some s) ss around scope base (parts_of q zs) held)
        (SpottedLeft q) (omega (arith, e))
        (leaves_bind (weigh q) (suffixes_walk true ss around scope (parts_of q zs) held) (then_on (last_suffix k s around scope base held))
        (λ x m. (c : ℕ) × (m ≡ rest + c) × PassedLeft q x c) (SpottedLeft q)
        (leaves_beside (weigh q) rest (suffixes_walk true ss around scope (parts_of q zs) held) (PassedLeft q)
        (suffixes_left q true ss zs (parts_of q zs) refl around scope held)) (λ x m t. then_last s held x m t.0 t.1 t.2))

    part_of_left : base.is_base ≡ true → (ss : List Suffix) (zs : List (Costed q))
        → Leaves (weigh q) (own q k + (b + total q zs)) (part_of place k ss around scope base (parts_of q zs)) (SpottedLeft q)
    part_of_left e ss zs =
        let l : h.reads + (h.gives + h.renews) ≤ b = h.enough_again e in
        leaves_bind (weigh q) base.read _ (λ i m. rest + total q zs ≤ m) (SpottedLeft q)
        (leaves_rest (weigh q) base.read (own q k + (b + total q zs)) (rest + total q zs) (λ i m. rest + total q zs ≤ m) h.read (omega (arith, l))
        (λ i. omega arith))
        (λ i m t. leaves_more (weigh q) (suffixes_spot place k _ _ around scope base (parts_of q zs) i) (SpottedLeft q) t (suffixes_spotted _ _ zs i))

    -- ---- parts of what is there late

    read_light : (ss : List Suffix) (ns : List Num) (i : Indices) → In q 0 (read_late around ss ns i)
    read_light [] ns i = in_give q _
    read_light (s ∷ ss) ns i =
        in_first q (reached_by around i s.way (its_numbers s ns)) _ (reached_light q around i s.way _) (λ x.
        in_first q (suffix_read true s.place s.number i x) (read_late around ss (other_numbers s ns)) (suffix_in q true s.place s.number i x)
        (read_light ss (other_numbers s ns)))

    late_light : (o : Option Suffix) (ss : List Suffix) (ns : List Num) (held : Indices) → In q 0 (suffixes_late place around o ss ns held)
    late_light None ss ns held = in_first q (wrong place) (λ t. give None) (owes_light q place _) (λ t. in_give q None)
    late_light (Some s) ss ns held =
        in_first q (read_late around ss ns held) (last_late around s) (read_light ss ns held) (λ o.
        in_first q (reached_by around o.value s.way (its_numbers s o.numbers)) _ (reached_light q around o.value s.way _) (λ x. in_give q _))

    ways_light : (ss : List Suffix) (ns : List Num) (a : Ahead) → In q 0 (ways_late place ss around ns a)
    ways_light ss ns a =
        within_scoped (weigh q) (bind (in_force a.facts) (λ t. part_late place ss around ns a.held))
        (in_first q (in_force a.facts) (λ t. part_late place ss around ns a.held) (force_light q a.facts) (λ t. late_light _ _ ns a.held))

    late_given : (a : Ahead) (n : ℕ) (fs : List Fact) (zs : List (Costed q)) (left : List Part) → parts_of q zs ≡ left → (m : ℕ) → rest + total q zs ≤ m
        → (o : Option Late) → Leaves (weigh q) m (give (late_spotted place around k base a n fs left o)) (SpottedLeft q)
    late_given a n fs zs left e m l None = leaves_give (weigh q) (SpottedLeft q) m None tt
    late_given a n fs zs left e m l (Some o) =
        spot_given rest m (late_part around (late_place place o) k base a.held o.reached _) zs left
        (late_part_in q around (late_place place o) k base h a.held o.reached _) e l

    numbered_left : (ss : List Suffix) (zs : List (Costed q)) (left : List Part) → parts_of q zs ≡ left → (a : Ahead) (m : ℕ) → rest + total q zs ≤ m
        → (o : Option (List Num)) → Leaves (weigh q) m (numbered_late place k ss around base left a o) (SpottedLeft q)
    numbered_left ss zs left e a m l None = leaves_give (weigh q) (SpottedLeft q) m None tt
    numbered_left ss zs left e a m l (Some ns) =
        leaves_bind (weigh q) next_variable _ (λ n c. m ≤ c) (SpottedLeft q)
        (leaves_rest (weigh q) next_variable m m (λ n c. m ≤ c) (next_light q) (omega arith) (λ n. omega arith)) (λ n c t.
        leaves_bind (weigh q) (ways_late place ss around ns a) _ (λ o d. c ≤ d) (SpottedLeft q)
        (leaves_rest (weigh q) (ways_late place ss around ns a) c c (λ o d. c ≤ d) (ways_light ss ns a) (omega arith) (λ o. omega arith)) (λ o d u.
        late_given a n _ zs left e d (let t1 : m ≤ c = t in let u1 : c ≤ d = u in omega (arith, l, t1, u1)) o))

    each_late_left : base.is_base ≡ true → (ss : List Suffix) (zs : List (Costed q))
        → Leaves (weigh q) (own q k + (b + total q zs)) (each_late place k ss around scope base (parts_of q zs)) (SpottedLeft q)
    each_late_left e ss zs =
        let l : h.reads + (h.gives + h.renews) ≤ b = h.enough_again e in
        let c = late_count ss (parts_of q zs) in
        leaves_bind (weigh q) (read_ahead base) _ (λ a m. rest + total q zs ≤ m) (SpottedLeft q)
        (leaves_rest (weigh q) (read_ahead base) (own q k + (b + total q zs)) (rest + total q zs) (λ a m. rest + total q zs ≤ m)
        (in_first q next_variable _ (next_light q) (λ m.
        in_last q (scoped base.read) _ (within_scoped (weigh q) base.read h.read) (λ held. in_give q _))) (omega (arith, l)) (λ a. omega arith))
        (λ a m t.
        leaves_more (weigh q) (bind (numbers_walk (take c (parts_of q zs)) around scope) (numbered_late place k ss around base (drop c (parts_of q zs)) a))
        (SpottedLeft q) t
        (behind_front q c zs rest (numbers_walk (take c (parts_of q zs)) around scope) (numbered_late place k ss around base (drop c (parts_of q zs)) a)
        (SpottedLeft q)
        (subst (λ (ps : List Part). In q (total q (take c zs)) (numbers_walk ps around scope)) (taken_parts q c zs) (numbers_in q (take c zs) around scope))
        (λ o d u. numbered_left ss (drop c zs) (drop c (parts_of q zs)) (dropped_parts q c zs) a d u o)))

    within_left_part : (ss : List Suffix) (zs : List (Costed q))
        → Leaves (weigh q) (own q k + (b + total q zs)) (part_within place k ss around scope base (parts_of q zs)) (SpottedLeft q)
    within_left_part ss zs = by base.is_base refl base.is_late (has_no_way ss (length (parts_of q zs)))
      where
        by : (is_base : Bool) → base.is_base ≡ is_base → (is_late short : Bool) → Leaves (weigh q) (own q k + (b + total q zs))
            (if is_base
            then (if is_late then (if short then no_spot place else each_late place k ss around scope base (parts_of q zs))
            else part_of place k ss around scope base (parts_of q zs))
            else no_spot place) (SpottedLeft q)
        by false e is_late short = no_spot_left q _ place
        by true e false short = part_of_left e ss zs
        by true e true true = no_spot_left q _ place
        by true e true false = each_late_left e ss zs

  part_spotting : (place : Place) (k : ℕ) (ss : List Suffix) (c : ℕ) (t : Spotting) → SpottingIn q c t
      → SpottingIn q (own q k + c) (kind_spot place k (T.Part ss) (t ∷ []))
  part_spotting place k ss c t h around scope ys parts e =
      leaves_more (weigh q) {a = own q k + (c + total q ys)} (kind_spot place k (T.Part ss) (t ∷ []) around scope parts) (SpottedLeft q) (omega arith)
      (leaves_bind (weigh q) (t around scope parts) (then_spot (part_within place k ss around scope))
      (λ x m. (d : ℕ) × (m ≡ own q k + d) × SpottedLeft q x d) (SpottedLeft q)
      (leaves_beside (weigh q) (own q k) (t around scope parts) (SpottedLeft q) (h around scope ys parts e)) (λ x m r. by x m r.0 r.1 r.2))
    where
      by : (x : Option Spotted) (m d : ℕ) → m ≡ own q k + d → SpottedLeft q x d
          → Leaves (weigh q) m (then_spot (part_within place k ss around scope) x) (SpottedLeft q)
      by None m d is r = leaves_give (weigh q) (SpottedLeft q) m None tt
      by (Some s) m d is r =
          let l : r.0 + total q r.1 ≤ d = r.4 in
          subst (λ (ps : List Part). Leaves (weigh q) m (part_within place k ss around scope s.spot ps) (SpottedLeft q)) r.3
          (leaves_more (weigh q) (part_within place k ss around scope s.spot (parts_of q r.1)) (SpottedLeft q) (omega (arith, is, l))
          (within_left_part around scope place k s.spot r.0 r.2 ss r.1))

  -- ---- the kinds

  own_spot_in : (b k : ℕ) (s : Spot) → SpotIn q (own q k) s → (ys : List (Costed q)) (parts : List Part) → parts_of q ys ≡ parts → own q k ≤ b
      → Leaves (weigh q) (b + total q ys) (give (spotted s parts)) (SpottedLeft q)
  own_spot_in b k s h ys parts e l = spot_given (own q k) (b + total q ys) s ys parts h e (omega (arith, l))

  abbrev numbers_of : ℕ → TargetKind → ℕ → ℕ
  numbers_of k kind c = own q k + (times q (target_kind_numbers kind) + c)

  kind_spotting : (place : Place) (k : ℕ) (kind : TargetKind) (c : ℕ) (ts : List Spotting) → AllSpotting c ts
      → SpottingIn q (numbers_of k kind c) (kind_spot place k kind ts)
  kind_spotting place k (T.Variable name) c [] h around scope ys parts e =
      own_spot_in (numbers_of k (T.Variable name) c) k (held_spot around place k name (held_in name scope))
      (held_in_spot q around place k name (held_in name scope)) ys parts e
      (omega arith)
  kind_spotting place k (T.Variable name) c (t ∷ ts) h around scope ys parts e = no_spot_left q _ place
  kind_spotting place k (T.Register r) c [] h around scope ys parts e =
      own_spot_in (numbers_of k (T.Register r) c) k (register_spot around place k (slice_get around.registers r))
      (register_in_spot q around place k (slice_get around.registers r)) ys parts e (omega arith)
  kind_spotting place k (T.Register r) c (t ∷ ts) h around scope ys parts e = no_spot_left q _ place
  kind_spotting place k (T.Call count reader writer) c [] h around scope ys parts e =
      leaves_more (weigh q) (call_target place k count reader writer around scope parts) (SpottedLeft q) (omega arith)
      (call_spotted_in place k count reader writer around scope ys parts e)
  kind_spotting place k (T.Call count reader writer) c (t ∷ ts) h around scope ys parts e = no_spot_left q _ place
  kind_spotting place k T.Tuple c ts h around scope ys parts e =
      leaves_more (weigh q) (kind_spot place k T.Tuple ts around scope parts) (SpottedLeft q) (omega arith)
      (tuple_spotting place k c ts h around scope ys parts e)
  kind_spotting place k (T.Part ss) c [] h around scope ys parts e = no_spot_left q _ place
  kind_spotting place k (T.Part ss) c (t ∷ []) h around scope ys parts e =
      let l : h.0 + h.1 ≤ c = h.2 in
      leaves_more (weigh q) (kind_spot place k (T.Part ss) (t ∷ []) around scope parts) (SpottedLeft q) (omega (arith, l))
      (part_spotting place k ss h.0 t h.3 around scope ys parts e)
  kind_spotting place k (T.Part ss) c (t ∷ u ∷ ts) h around scope ys parts e = no_spot_left q _ place

  -- ---- any target

  abbrev TargetIn : Target → Type 0
  TargetIn t = SpottingIn q (times q (target_numbers t)) (spotting t)

  abbrev Such : Type 0
  Such = (t : Target) × TargetIn t

  abbrev bare : List Such → List Target
  bare ys = map (λ (y : Such). y.0) ys

  all_spotting : (ys : List Such) → AllSpotting (times q (joined (map target_numbers (bare ys)))) (map spotting (bare ys))
  all_spotting [] = tt
  all_spotting (y ∷ ys) =
      let e : times q (target_numbers y.0 ++ joined (map target_numbers (bare ys))) ≡ times q (target_numbers y.0) + times q
      (joined (map target_numbers (bare ys))) =
      times_both q (target_numbers y.0) (joined (map target_numbers (bare ys))) in
      (times q (target_numbers y.0), times q (joined (map target_numbers (bare ys))), omega (arith, e), y.1, all_spotting ys)

  target_step : (y : Target-F Such) → TargetIn (roll-Target (map-Target Such Target (λ p. p.0) y))
  target_step y =
      let d : Target-F Target = map-Target Such Target (λ p. p.0) y in
      let ns : List ℕ = joined (map target_numbers d.parts) in
      let both : times q (target_kind_numbers d.kind ++ ns) ≡ times q (target_kind_numbers d.kind) + times q ns = times_both q
      (target_kind_numbers d.kind) ns in
      let inner : SpottingIn q (times q (d.number ∷ target_kind_numbers d.kind ++ ns)) (kind_spot d.place d.number d.kind (map spotting d.parts)) =
      λ around scope zs parts e.
      leaves_more (weigh q) (kind_spot d.place d.number d.kind (map spotting d.parts) around scope parts) (SpottedLeft q) (omega (arith, both))
      (kind_spotting d.place d.number d.kind (times q ns) (map spotting d.parts) (all_spotting y.parts) around scope zs parts e) in
      subst (λ (t : Spotting). SpottingIn q (times q (target_numbers (roll-Target d))) t)
      (sym (fold-roll-Target Spotting (λ t. kind_spot t.place t.number t.kind t.parts) d))
      (subst (λ (ks : List ℕ). SpottingIn q (times q ks) (kind_spot d.place d.number d.kind (map spotting d.parts)))
      (sym (fold-roll-Target (List ℕ) (λ t. t.number ∷ target_kind_numbers t.kind ++ joined t.parts) d)) inner)

  target_in : (t : Target) → TargetIn t
  target_in = ind-Target TargetIn (λ t y e. subst (λ d. TargetIn (roll-Target d)) e (target_step y))

  -- ---- assignments

  written_in : {b : ℕ} (place : Place) (s : Spot) → SpotIn q b s → (nested : Bool) (i : Indices) → In q b (written_by place s nested i)
  written_in place s h nested i =
      in_last q (s.write nested i) (owed_answer place) (h.write nested i) (λ w.
      in_first q (owe_fit place w.left) (λ t. give w.answer) (fit_light q place w.left) (λ t. in_give q w.answer))

  one_assigned : (b : ℕ) (place : Place) (around : Around) (scope : Scope) (s : Spot) → SpotIn q b s → (zs : List (Costed q))
      → In q (b + total q zs) (assigned_one place around scope s (parts_of q zs))
  one_assigned b place around scope s h [] = wrong_in q place
  one_assigned b place around scope s h (a ∷ []) =
      in_more q (assigned_one place around scope s (a.part ∷ [])) (omega arith)
      (in_both q (a.part.walk around scope (aimed Aims.Given s.typ)) (written_by place s a.part.is_nested) (walk_in q a around scope (aimed Aims.Given s.typ))
      (written_in place s h a.part.is_nested))
  one_assigned b place around scope s h (a ∷ c ∷ zs) = wrong_in q place

  then_in : (place : Place) (ts : List Target) (around : Around) (scope : Scope)
      → ((zs : List (Costed q)) → In q (times q (joined (map target_numbers ts)) + total q zs) (assigned place (map spotting ts) around scope (parts_of q zs)))
      → (x : Option Spotted) (m d : ℕ) → m ≡ times q (joined (map target_numbers ts)) + d → SpottedLeft q x d
      → In q m (then_assigned (assigned_to place (map spotting ts) (assigned place (map spotting ts) around scope) around scope) x)
  then_in place ts around scope again None m d e r = in_give q I.Never
  then_in place [] around scope again (Some s) m d e r =
      let l : r.0 + total q r.1 ≤ d = r.4 in
      subst (λ (ps : List Part). In q m (assigned_one place around scope s.spot ps)) r.3
      (in_more q (assigned_one place around scope s.spot (parts_of q r.1)) (omega (arith, e, l)) (one_assigned r.0 place around scope s.spot r.2 r.1))
  then_in place (t ∷ ts) around scope again (Some s) m d e r =
      let l : r.0 + total q r.1 ≤ d = r.4 in
      subst (λ (ps : List Part). In q m (bind (assigned place (map spotting (t ∷ ts)) around scope ps) (written_by place s.spot false))) r.3
      (in_more q (bind (assigned place (map spotting (t ∷ ts)) around scope (parts_of q r.1)) (written_by place s.spot false)) (omega (arith, e, l))
      (in_both q (assigned place (map spotting (t ∷ ts)) around scope (parts_of q r.1)) (written_by place s.spot false) (again r.1)
      (written_in place s.spot r.2 false)))

  pub targets_in : TargetsIn q
  targets_in place [] ys around scope = wrong_in q place
  targets_in place (t ∷ ts) ys around scope =
      let ns : List ℕ = joined (map target_numbers ts) in
      let e : times q (target_numbers t ++ ns) ≡ times q (target_numbers t) + times q ns = times_both q (target_numbers t) ns in
      in_more q {a = times q ns + (times q (target_numbers t) + total q ys)} (assigned place (map spotting (t ∷ ts)) around scope (parts_of q ys))
      (omega (arith, e))
      (within_left (weigh q) (spotting t around scope (parts_of q ys))
      (then_assigned (assigned_to place (map spotting ts) (assigned place (map spotting ts) around scope) around scope))
      (λ x m. (d : ℕ) × (m ≡ times q ns + d) × SpottedLeft q x d)
      (leaves_beside (weigh q) (times q ns) (spotting t around scope (parts_of q ys)) (SpottedLeft q) (target_in t around scope ys (parts_of q ys) refl))
      (λ x m r. then_in place ts around scope (λ zs. targets_in place ts zs around scope) x m r.0 r.1 r.2))
