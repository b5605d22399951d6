-- Assignments go through the mappings of their parts.
use Rattle.std.specs.Prelude.{List, None, Option, Some, drop, false, length, slice_get, take, true, ℕ, []}
use Rattle.std.specs.Prelude.{◌-◌, ◌∷◌}
use Rattle.std.proofs.Common.{sym, subst, map}
use Rattle.sail_base.specs.declared.place.Place.{Place}
use Rattle.sail_core.specs.declared.targets.Caller.{Caller}
use Rattle.sail_core.specs.declared.targets.Suffix.{Suffix}
use Rattle.sail_core.specs.declared.targets.Target.{Target}
use Rattle.sail_core.specs.declared.targets.TargetKind.{TargetKind}
use Rattle.sail_core.specs.declared.targets.TargetKind.TheVariants as T
use Rattle.sail_types.specs.declared.numbers.Num.{Num}
use Rattle.value_indices.specs.Steps.{Walk}
use Rattle.value_indices.specs.declared.indices.Indices.{Indices}
use Rattle.value_indices.specs.declared.notes.Fact.{Fact}
use Rattle.pattern_leaves.specs.Settings.{Around, Scope, held_in}
use Rattle.call_arguments.specs.Aims.{aimed}
use Rattle.call_notes.specs.Calls.{callee_types}
use Rattle.call_arguments.specs.declared.aims.Aim.TheVariants as Aims
use Rattle.expression_forms.specs.Spots.{Spot, known_from}
use Rattle.expression_steps.specs.Calls.{nestings}
use Rattle.expression_steps.specs.Parts.{Part}
use Rattle.expression_steps.specs.Values.{Taken}
use Rattle.expression_steps.specs.declared.late.Ahead.{Ahead}
use Rattle.expression_steps.specs.declared.late.Late.{Late}
use Rattle.expression_steps.specs.Targets.{Spotting, then_spot, no_spot, part_spotted, last_suffix}
use Rattle.expression_steps.specs.Targets.{suffixes_spot, part_of, read_ahead, its_numbers, other_numbers, read_late}
use Rattle.expression_steps.specs.Targets.{last_late, suffixes_late, part_late, late_spotted, ways_late, known_late}
use Rattle.expression_steps.specs.Targets.{numbered_late, late_count, each_late, late_place, has_no_way, spotted_late}
use Rattle.expression_steps.specs.Targets.{based, part_within, with_spot, each_spot, tuple_spotted, call_spotted, call_target, kind_spot}
use Rattle.expression_steps.specs.Targets.{spotting, value_for, assigned_one, then_assigned, assigned_to, assigned, Spotted, SpottedAll, Onward}
use Rattle.sail_core.specs.declared.targets.Target.{Target-F, roll-Target, map-Target, fold-roll-Target, ind-Target}
use Rattle.note_laws.specs.Ways.{Told}
use Rattle.note_laws.proofs.Goes.{Goes, IsTabled, Keeps, Every, PartGoes, SpotGoes, SpottedGoes, AllSpotted, TakenGoes, SpottingGoes, keep_give}
use Rattle.note_laws.proofs.Goes.{give_goes, bind_to, bind_goes, if_goes, in_force_goes, next_variable_goes, scoped_goes, wrong_goes, take_every, drop_every}
use Rattle.note_laws.proofs.ArgumentGoes.{arguments_walk_goes}
use Rattle.note_laws.proofs.EndGoes.{never_value_goes, wrong_value_goes}
use Rattle.note_laws.proofs.PartGoes.{numbers_walk_goes}
use Rattle.note_laws.proofs.SpotGoes.{call_spot_goes, held_spot_goes, late_part_goes, part_spot_goes, register_spot_goes, tuple_spot_goes, written_by_goes}
use Rattle.note_laws.proofs.ValueGoes.{reached_by_goes, suffixes_walk_goes, then_on_goes, way_walk_goes}
use Rattle.note_laws.proofs.WayGoes.{suffix_read_goes}

module _ (told : Told) where
  pub then_assigned_goes : (next : (Spot → List Part → Walk Indices))
      → ((a : Spot) → SpotGoes told a → (b : List Part) → Every (PartGoes told) b → Goes told (next a b)) → (s : Option Spotted)
      → SpottedGoes told s → Goes told (then_assigned next s)
  then_assigned_goes next next_go None found_go = never_value_goes told
  then_assigned_goes next next_go (Some s) found_go = next_go s.spot found_go.0 s.left found_go.1

  pub value_for_goes : (a : Part) → PartGoes told a → (around : Around) (tabled : IsTabled told around) (scope : Scope) (place : Place) (s : Spot)
      → SpotGoes told s
      → Goes told (value_for a around scope place s)
  value_for_goes a a_go around tabled scope place s s_go =
      bind_goes told _ _ (a_go.walk around tabled scope (aimed Aims.Given s.typ)) (written_by_goes told place s s_go a.is_nested)

  pub assigned_one_goes : (place : Place) (around : Around) (tabled : IsTabled told around) (scope : Scope) (s : Spot) → SpotGoes told s → (parts : List Part)
      → Every (PartGoes told) parts → Goes told (assigned_one place around scope s parts)
  assigned_one_goes place around tabled scope s s_go (a ∷ []) parts_go = value_for_goes a parts_go.0 around tabled scope place s s_go
  assigned_one_goes place around tabled scope s s_go parts parts_go = wrong_value_goes told place

  pub assigned_to_goes : (place : Place) (ts : List Spotting) → Every (SpottingGoes told) ts → (further : (List Part → Walk Indices))
      → ((a : List Part) → Every (PartGoes told) a → Goes told (further a)) → (around : Around) (tabled : IsTabled told around) (scope : Scope) (s : Spot)
      → SpotGoes told s
      → (left : List Part) → Every (PartGoes told) left → Goes told (assigned_to place ts further around scope s left)
  assigned_to_goes place [] targets_go further further_go around tabled scope s s_go left left_go =
      assigned_one_goes place around tabled scope s s_go left left_go
  assigned_to_goes place (t ∷ ts) targets_go further further_go around tabled scope s s_go left left_go =
      bind_goes told _ _ (further_go left left_go) (written_by_goes told place s s_go false)

  pub assigned_goes : (place : Place) (ts : List Spotting) → Every (SpottingGoes told) ts
      → (around : Around) (tabled : IsTabled told around) (scope : Scope) (parts : List Part)
      → Every (PartGoes told) parts → Goes told (assigned place ts around scope parts)
  assigned_goes place [] targets_go around tabled scope parts parts_go = wrong_value_goes told place
  assigned_goes place (t ∷ ts) targets_go around tabled scope parts parts_go =
      bind_to told _ _ (targets_go.0 around tabled scope parts parts_go)
      (then_assigned_goes _ (assigned_to_goes place ts targets_go.1 _ (assigned_goes place ts targets_go.1 around tabled scope) around tabled scope))

  pub call_spotted_goes : (around : Around) (tabled : IsTabled told around) (place : Place) (k : ℕ) (count : ℕ) (reader : Option Caller) (writer : Caller)
      (parts : List Part)
      → Every (PartGoes told) parts → (is : List Indices) → Keeps told (SpottedGoes told) (call_spotted around place k count reader writer parts is)
  call_spotted_goes around tabled place k count reader writer parts parts_go is =
      keep_give told _ _ ((call_spot_goes told around tabled place k reader writer (nestings (take count parts)) is), (drop_every _ count parts parts_go))

  pub call_target_goes : (place : Place) (k : ℕ) (count : ℕ) (reader : Option Caller) (writer : Caller) (around : Around) (tabled : IsTabled told around)
      (scope : Scope) (parts : List Part)
      → Every (PartGoes told) parts → Keeps told (SpottedGoes told) (call_target place k count reader writer around scope parts)
  call_target_goes place k count reader writer around tabled scope parts parts_go =
      bind_goes told _ _ (arguments_walk_goes told (take count parts) (take_every _ count parts parts_go) around tabled scope
      (callee_types around writer.callee)) (call_spotted_goes around tabled place k count reader writer parts parts_go)

  then_spot_goes : {A : Type 0} (Q : Option A → Type 0) → Q None → (next : Spot → List Part → Walk (Option A))
      → ((s : Spot) → SpotGoes told s → (left : List Part) → Every (PartGoes told) left → Keeps told Q (next s left))
      → (o : Option Spotted) → SpottedGoes told o → Keeps told Q (then_spot next o)
  then_spot_goes Q q next next_go None h = keep_give told Q None q
  then_spot_goes Q q next next_go (Some s) h = next_go s.spot h.0 s.left h.1

  pub with_spot_goes : (s : Spot) → SpotGoes told s → (more : Option SpottedAll) → AllSpotted told more
      → Keeps told (AllSpotted told) (with_spot s more)
  with_spot_goes s s_go None all_go = keep_give told _ _ tt
  with_spot_goes s s_go (Some more) all_go = keep_give told _ _ ((s_go, all_go.0), all_go.1)

  pub each_spot_goes : (ts : List Spotting) → Every (SpottingGoes told) ts
      → (around : Around) (tabled : IsTabled told around) (scope : Scope) (parts : List Part)
      → Every (PartGoes told) parts → Keeps told (AllSpotted told) (each_spot ts around scope parts)
  each_spot_goes [] targets_go around tabled scope parts parts_go = keep_give told _ _ (tt, parts_go)
  each_spot_goes (t ∷ ts) targets_go around tabled scope parts parts_go =
      bind_to told _ _ (targets_go.0 around tabled scope parts parts_go)
      (then_spot_goes (AllSpotted told) tt _
      (λ s s_go left left_go. bind_to told _ _ (each_spot_goes ts targets_go.1 around tabled scope left left_go) (with_spot_goes s s_go)))

  pub no_spot_goes : (place : Place) → Keeps told (SpottedGoes told) (no_spot place)
  no_spot_goes place = bind_goes told _ _ (wrong_goes told place) (λ t. keep_give told _ _ tt)

  pub read_ahead_goes : (base : Spot) → SpotGoes told base → Goes told (read_ahead base)
  read_ahead_goes base base_go =
      bind_goes told _ _ (next_variable_goes told) (λ m. bind_goes told _ _ (scoped_goes told _ base_go.read) (λ held. give_goes told _))

  pub read_late_goes : (around : Around) (ss : List Suffix) (ns : List Num) (i : Indices) → Goes told (read_late around ss ns i)
  read_late_goes around [] ns i = give_goes told _
  read_late_goes around (s ∷ ss) ns i =
      bind_goes told _ _ (reached_by_goes told around i s.way (its_numbers s ns))
      (λ x. bind_goes told _ _ (suffix_read_goes told true s.place s.number i x) (read_late_goes around ss (other_numbers s ns)))

  pub last_late_goes : (around : Around) (s : Suffix) (o : Onward) → Goes told (last_late around s o)
  last_late_goes around s o = bind_goes told _ _ (reached_by_goes told around o.value s.way (its_numbers s o.numbers)) (λ x. give_goes told _)

  pub suffixes_late_goes : (place : Place) (around : Around) (s : Option Suffix) (ss : List Suffix) (ns : List Num) (held : Indices)
      → Goes told (suffixes_late place around s ss ns held)
  suffixes_late_goes place around None ss ns held = bind_goes told _ _ (wrong_goes told place) (λ t. give_goes told _)
  suffixes_late_goes place around (Some s) ss ns held = bind_goes told _ _ (read_late_goes around ss ns held) (last_late_goes around s)

  pub part_late_goes : (place : Place) (ss : List Suffix) (around : Around) (ns : List Num) (held : Indices) → Goes told (part_late place ss around ns held)
  part_late_goes place ss around ns held = suffixes_late_goes place around (slice_get ss (length ss - 1)) (take (length ss - 1) ss) ns held

  pub ways_late_goes : (place : Place) (ss : List Suffix) (around : Around) (ns : List Num) (a : Ahead) → Goes told (ways_late place ss around ns a)
  ways_late_goes place ss around ns a =
      scoped_goes told _ (bind_goes told _ _ (in_force_goes told a.facts) (λ t. part_late_goes place ss around ns a.held))

  late_spotted_goes : (place : Place) (around : Around) (k : ℕ) (base : Spot) → SpotGoes told base → (a : Ahead) (n : ℕ) (fs : List Fact) (left : List Part)
      → Every (PartGoes told) left → (o : Option Late) → SpottedGoes told (late_spotted place around k base a n fs left o)
  late_spotted_goes place around k base base_go a n fs left left_go None = tt
  late_spotted_goes place around k base base_go a n fs left left_go (Some l) =
      (late_part_goes told around (late_place place l) k base base_go a.held l.reached _, left_go)

  pub known_late_goes : (place : Place) (k : ℕ) (ss : List Suffix) (around : Around) (base : Spot) → SpotGoes told base → (a : Ahead) (left : List Part)
      → Every (PartGoes told) left → (ns : List Num) → Keeps told (SpottedGoes told) (known_late place k ss around base a left ns)
  known_late_goes place k ss around base base_go a left left_go ns =
      bind_goes told _ _ (next_variable_goes told)
      (λ n. bind_goes told _ _ (ways_late_goes place ss around ns a)
      (λ o. keep_give told _ _ (late_spotted_goes place around k base base_go a n (known_from n (part_late place ss around ns a.held)) left left_go o)))

  pub numbered_late_goes : (place : Place) (k : ℕ) (ss : List Suffix) (around : Around) (base : Spot) → SpotGoes told base → (left : List Part)
      → Every (PartGoes told) left → (a : Ahead) (ns : Option (List Num))
      → Keeps told (SpottedGoes told) (numbered_late place k ss around base left a ns)
  numbered_late_goes place k ss around base base_go left left_go a None = keep_give told _ _ tt
  numbered_late_goes place k ss around base base_go left left_go a (Some ns) = known_late_goes place k ss around base base_go a left left_go ns

  pub each_late_goes : (place : Place) (k : ℕ) (ss : List Suffix) (around : Around) (tabled : IsTabled told around) (scope : Scope) (base : Spot)
      → SpotGoes told base → (left : List Part)
      → Every (PartGoes told) left → Keeps told (SpottedGoes told) (each_late place k ss around scope base left)
  each_late_goes place k ss around tabled scope base base_go left left_go =
      bind_goes told _ _ (read_ahead_goes base base_go)
      (λ a. bind_goes told _ _ (numbers_walk_goes told (take (late_count ss left) left) (take_every _ (late_count ss left) left left_go) around tabled scope)
      (numbered_late_goes place k ss around base base_go (drop (late_count ss left) left) (drop_every _ (late_count ss left) left left_go) a))

  pub spotted_late_goes : (place : Place) (k : ℕ) (ss : List Suffix) (around : Around) (tabled : IsTabled told around) (scope : Scope) (base : Spot)
      → SpotGoes told base
      → (left : List Part) → Every (PartGoes told) left → Keeps told (SpottedGoes told) (spotted_late place k ss around scope base left)
  spotted_late_goes place k ss around tabled scope base base_go left left_go =
      if_goes told (has_no_way ss (length left)) _ _ (no_spot_goes place) (each_late_goes place k ss around tabled scope base base_go left left_go)

  part_spotted_goes : (around : Around) (k : ℕ) (s : Suffix) (base : Spot) → SpotGoes told base → (held : Indices) (w : Option Taken) → TakenGoes told w
      → SpottedGoes told (part_spotted around k s base held w)
  part_spotted_goes around k s base base_go held None h = tt
  part_spotted_goes around k s base base_go held (Some w) h = (part_spot_goes told around s.place k s.way base base_go held w.reached, h)

  last_suffix_goes : (k : ℕ) (s : Suffix) (around : Around) (tabled : IsTabled told around) (scope : Scope) (base : Spot) → SpotGoes told base
      → (held : Indices) (parts : List Part)
      → Every (PartGoes told) parts → (i : Indices) → Keeps told (SpottedGoes told) (last_suffix k s around scope base held parts i)
  last_suffix_goes k s around tabled scope base base_go held parts parts_go i =
      bind_to told _ _ (way_walk_goes told s.place parts parts_go around tabled scope i s.way) (λ w w_go.
      keep_give told _ _ (part_spotted_goes around k s base base_go held w w_go))

  pub suffixes_spot_goes : (place : Place) (k : ℕ) (s : Option Suffix) (ss : List Suffix) (around : Around) (tabled : IsTabled told around) (scope : Scope)
      (base : Spot)
      → SpotGoes told base → (parts : List Part) → Every (PartGoes told) parts → (held : Indices)
      → Keeps told (SpottedGoes told) (suffixes_spot place k s ss around scope base parts held)
  suffixes_spot_goes place k None ss around tabled scope base base_go parts parts_go held = no_spot_goes place
  suffixes_spot_goes place k (Some s) ss around tabled scope base base_go parts parts_go held =
      bind_to told _ _ (suffixes_walk_goes told true ss around tabled scope parts parts_go held)
      (then_on_goes told (SpottedGoes told) tt _ (last_suffix_goes k s around tabled scope base base_go held))

  pub part_of_goes : (place : Place) (k : ℕ) (ss : List Suffix) (around : Around) (tabled : IsTabled told around) (scope : Scope) (s : Spot) → SpotGoes told s
      → (left : List Part)
      → Every (PartGoes told) left → Keeps told (SpottedGoes told) (part_of place k ss around scope s left)
  part_of_goes place k ss around tabled scope s s_go left left_go =
      bind_goes told _ _ s_go.read (suffixes_spot_goes place k (slice_get ss (length ss - 1)) (take (length ss - 1) ss) around tabled scope s s_go left left_go)

  pub based_goes : (place : Place) (k : ℕ) (ss : List Suffix) (around : Around) (tabled : IsTabled told around) (scope : Scope) (base : Spot)
      → SpotGoes told base → (left : List Part)
      → Every (PartGoes told) left → Keeps told (SpottedGoes told) (based place k ss around scope base left)
  based_goes place k ss around tabled scope base base_go left left_go =
      if_goes told base.is_late _ _ (spotted_late_goes place k ss around tabled scope base base_go left left_go)
      (part_of_goes place k ss around tabled scope base base_go left left_go)

  pub part_within_goes : (place : Place) (k : ℕ) (ss : List Suffix) (around : Around) (tabled : IsTabled told around) (scope : Scope) (base : Spot)
      → SpotGoes told base → (left : List Part)
      → Every (PartGoes told) left → Keeps told (SpottedGoes told) (part_within place k ss around scope base left)
  part_within_goes place k ss around tabled scope base base_go left left_go =
      if_goes told base.is_base _ _ (based_goes place k ss around tabled scope base base_go left left_go) (no_spot_goes place)

  tuple_spotted_goes : (place : Place) (k : ℕ) (all : Option SpottedAll) → AllSpotted told all → SpottedGoes told (tuple_spotted place k all)
  tuple_spotted_goes place k None h = tt
  tuple_spotted_goes place k (Some s) h = (tuple_spot_goes told place k s.spots h.0, h.1)

  pub kind_spot_goes : (place : Place) (k : ℕ) (kind : TargetKind) (targets : List Spotting) → Every (SpottingGoes told) targets
      → (around : Around) (tabled : IsTabled told around) (scope : Scope) (parts : List Part) → Every (PartGoes told) parts
      → Keeps told (SpottedGoes told) (kind_spot place k kind targets around scope parts)
  kind_spot_goes place k (T.Variable name) [] targets_go around tabled scope parts parts_go =
      keep_give told _ _ ((held_spot_goes told around place k name (held_in name scope)), parts_go)
  kind_spot_goes place k (T.Register r) [] targets_go around tabled scope parts parts_go =
      keep_give told _ _ ((register_spot_goes told around place k (slice_get around.registers r)), parts_go)
  kind_spot_goes place k (T.Call count reader writer) [] targets_go around tabled scope parts parts_go =
      call_target_goes place k count reader writer around tabled scope parts parts_go
  kind_spot_goes place k T.Tuple targets targets_go around tabled scope parts parts_go =
      bind_to told _ _ (each_spot_goes targets targets_go around tabled scope parts parts_go)
      (λ all all_go. keep_give told _ _ (tuple_spotted_goes place k all all_go))
  kind_spot_goes place k (T.Part suffixes) (base ∷ []) targets_go around tabled scope parts parts_go =
      bind_to told _ _ (targets_go.0 around tabled scope parts parts_go)
      (then_spot_goes (SpottedGoes told) tt _ (part_within_goes place k suffixes around tabled scope))
  kind_spot_goes place k kind targets targets_go around tabled scope parts parts_go = no_spot_goes place

  -- ---- targets

  TargetGoes : Target → Type 0
  TargetGoes t = SpottingGoes told (spotting t)

  abbrev Known : Type 0
  Known = (t : Target) × TargetGoes t

  known_parts : (ys : List Known) → Every (SpottingGoes told) (map spotting (map (λ (y : Known). y.0) ys))
  unfolding TargetGoes
  known_parts [] = tt
  known_parts (y ∷ ys) = (y.1, known_parts ys)

  target_step : (y : Target-F Known) → TargetGoes (roll-Target (map-Target Known Target (λ p. p.0) y))
  unfolding TargetGoes
  target_step y =
      subst (SpottingGoes told)
      (sym (fold-roll-Target Spotting (λ t. kind_spot t.place t.number t.kind t.parts) (map-Target Known Target (λ p. p.0) y)))
      (λ around tabled scope parts parts_go.
      kind_spot_goes y.place y.number y.kind (map spotting (map (λ (p : Known). p.0) y.parts)) (known_parts y.parts) around tabled scope parts parts_go)

  each_target : (t : Target) → TargetGoes t
  each_target = ind-Target TargetGoes (λ e y is. subst (λ d. TargetGoes (roll-Target d)) is (target_step y))

  pub spottings_go : (ts : List Target) → Every (SpottingGoes told) (map spotting ts)
  unfolding TargetGoes
  spottings_go [] = tt
  spottings_go (t ∷ ts) = (each_target t, spottings_go ts)
