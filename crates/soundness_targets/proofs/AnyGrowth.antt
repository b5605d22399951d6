-- Every target's walk counts variables on, whatever the target is.
use Rattle.std.proofs.Common.{◌≡◌, ℕ, Bool, true, false, List, [], ◌∷◌, ◌-◌, drop, if◌then◌else◌, length, map, slice_get, take}
use Rattle.std.proofs.Common.{Option, Some, None, refl, sym, subst}
use Rattle.sail_base.specs.declared.place.Place.{Place}
use Rattle.sail_core.specs.declared.targets.Caller.{Caller}
use Rattle.sail_core.specs.declared.targets.Suffix.{Suffix}
use Rattle.sail_core.specs.declared.targets.Target.{Target, Target-F, fold-roll-Target, ind-Target, map-Target, roll-Target}
use Rattle.sail_core.specs.declared.targets.TargetKind.{TargetKind}
use Rattle.sail_core.specs.declared.targets.TargetKind.TheVariants as T
use Rattle.sail_core.specs.declared.targets.Way.{Way}
use Rattle.value_indices.specs.Steps.{Walk, bind, give, next_variable, wrong}
use Rattle.value_indices.specs.declared.indices.Indices.{Indices}
use Rattle.value_indices.specs.declared.notes.Fact.{Fact}
use Rattle.sail_types.specs.declared.numbers.Num.{Num}
use Rattle.pattern_leaves.specs.Settings.{Around, Scope, held_in}
use Rattle.call_arguments.specs.Holes.{value_has_hole}
use Rattle.call_notes.specs.Calls.{callee_types}
use Rattle.expression_forms.specs.Spots.{Spot, call_spot, held_spot, known_from, late_part, late_spot, part_spot, register_spot, wrong_spot}
use Rattle.expression_forms.specs.declared.spots.Known.{Known}
use Rattle.expression_forms.specs.declared.ways.Reached.{Reached}
use Rattle.expression_steps.specs.Calls.{argument_aims, nestings}
use Rattle.expression_steps.specs.Parts.{Part, each_walk, numbers_walk}
use Rattle.expression_steps.specs.Targets.{Spotted, SpottedAll, Spotting, call_spotted, each_late, each_spot, has_no_way, kind_spot, known_late, late_count}
use Rattle.expression_steps.specs.Targets.{late_place, late_spotted, no_spot, numbered_late, part_late, part_of, part_within, read_ahead}
use Rattle.expression_steps.specs.Targets.{spotted, spotted_late, spotting}
use Rattle.expression_steps.specs.Targets.{suffixes_spot, then_spot, tuple_spotted, ways_late}
use Rattle.expression_steps.specs.declared.late.Ahead.{Ahead}
use Rattle.expression_steps.specs.declared.late.Late.{Late}
use Rattle.soundness_steps.specs.Steps.{Grows}
use Rattle.soundness_forms.proofs.Growth.{grows_bind, grows_give}
use Rattle.soundness_parts.proofs.PartGrowth.{Gives, any, gives_back, gives_bind, grows_bind_at, none_grows}
use Rattle.soundness_targets.proofs.LateGrowth.{call_base, each_late_grows, late_part_grows}
use Rattle.soundness_targets.proofs.PartGrows.{BaseGrows, held_base, part_write_grows, register_base, wrong_base}
use Rattle.soundness_targets.proofs.TargetGrowth.{AnyGrow, SpottedGrow, left_grow, spots_give, spots_grow}
use Rattle.soundness_targets.proofs.TupleGrowth.{AllGrown, AllMembersGrow, MemberGrows, WriteGrows, call_member, call_write_grows, held_write_grows, more_grow}
use Rattle.soundness_targets.proofs.TupleGrowth.{none_grow, register_write_grows, tuple_write_grows, wrong_write_grows}

-- the base of a part, or none
pub data Base (around : Around) (s : Spot) : Type 0 where
  as_base : BaseGrows around s → Base around s
  no_base : s.is_base ≡ false → Base around s

module _ (around : Around) (scope : Scope) where
  abbrev Good : Spot → Type 0
  Good s = WriteGrows s × Base around s

  abbrev Spots : Option Spotted → Type 0
  Spots o = SpottedGrow around scope Good o

  abbrev AnyGrows : (List Part → Walk (Option Spotted)) → Type 0
  AnyGrows t = (ps : List Part) → AnyGrow around scope ps → Grows (t ps) × Gives Spots (t ps)

  once : (s : Spot) → Good s → AnyGrows (λ ps. give (spotted s ps))
  once s h ps grow = (grows_give (spotted s ps), gives_back Spots (spotted s ps) (grow, h))

  nowhere : (at : Place) → AnyGrows (λ ps. no_spot at)
  nowhere at ps grow = (none_grows at, gives_bind (λ t. Unit {0}) Spots (wrong at) (λ t. give None) (any (wrong at)) (λ t u. gives_back Spots None tt))

  -- ---- calls

  calls : (at : Place) (k count : ℕ) (reader : Option Caller) (writer : Caller) → AnyGrows (kind_spot at k (T.Call count reader writer) [] around scope)
  calls at k count reader writer ps grow =
      let arguments : Walk (List Indices) = each_walk (take count ps) around scope (argument_aims (callee_types around writer.callee)) in (
        (call_member around scope at k count reader writer ps grow).0,
        gives_bind (λ is. Unit {0}) Spots arguments (call_spotted around at k count reader writer ps) (any arguments) (λ is u.
            gives_back Spots (spotted (call_spot around at k reader writer (nestings (take count ps)) is) (drop count ps)) (
              left_grow around scope count ps grow,
              (
                call_write_grows around at k reader writer (nestings (take count ps)) is,
                as_base (call_base around at k reader writer (nestings (take count ps)) is),
              ),
            )),
      )

  -- ---- parts

  module _ (at : Place) (k : ℕ) (ss : List Suffix) (s : Spot) (h : BaseGrows around s) where
    part_good : (place : Place) (way : Way) (held : Indices) (o : Option Reached) → Good (part_spot around place k way s held o)
    part_good place way held None = (wrong_write_grows place, as_base (wrong_base around place))
    part_good place way held (Some x) = (part_write_grows around place k way s h.renews held (Some x), no_base refl)

    part_of_base : AnyGrows (part_of at k ss around scope s)
    part_of_base ps grow =
        let next : Indices → Walk (Option Spotted) = suffixes_spot at k (slice_get ss (length ss - 1)) (take (length ss - 1) ss) around scope s ps in (
          grows_bind s.read next h.reads (λ held.
              spots_grow around scope Good at k s held (λ t o. part_good t.place t.way held o) (slice_get ss (length ss - 1))
              (take (length ss - 1) ss) ps grow),
          gives_bind (λ i. Unit {0}) Spots s.read next (any s.read) (λ held u.
              spots_give around scope Good at k s held (λ t o. part_good t.place t.way held o) (slice_get ss (length ss - 1))
              (take (length ss - 1) ss) ps grow),
        )

    late_good : (place : Place) (held : Indices) (o : Option Reached) (known : Known) → Good (late_part around place k s held o known)
    late_good place held None known = (wrong_write_grows place, as_base (wrong_base around place))
    late_good place held (Some x) known = (late_part_grows around place k s h.renews held (Some x) known, by (value_has_hole held))
      where
        by : (b : Bool) → Base around (if b then wrong_spot place else late_spot around place k s held x known)
        by true = as_base (wrong_base around place)
        by false = no_base refl

    found_good : (a : Ahead) (n : ℕ) (fs : List Fact) (left : List Part) → AnyGrow around scope left → (o : Option Late)
        → Spots (late_spotted at around k s a n fs left o)
    found_good a n fs left grow None = tt
    found_good a n fs left grow (Some l) = (grow, late_good (late_place at l) a.held l.reached _)

    known_good : (left : List Part) → AnyGrow around scope left → (a : Ahead) (ns : List Num) → Gives Spots (known_late at k ss around s a left ns)
    known_good left grow a ns =
        gives_bind (λ n. Unit {0}) Spots next_variable (λ n. bind (ways_late at ss around ns a) (λ o.
        give (late_spotted at around k s a n (known_from n (part_late at ss around ns a.held)) left o))) (any next_variable) (λ n u.
        gives_bind (λ o. Unit {0}) Spots (ways_late at ss around ns a) (λ o.
        give (late_spotted at around k s a n (known_from n (part_late at ss around ns a.held)) left o)) (any (ways_late at ss around ns a)) (λ o v.
        gives_back Spots (late_spotted at around k s a n (known_from n (part_late at ss around ns a.held)) left o)
        (found_good a n (known_from n (part_late at ss around ns a.held)) left grow o)))

    numbered_good : (left : List Part) → AnyGrow around scope left → (a : Ahead) (o : Option (List Num)) → Gives Spots (numbered_late at k ss around s left a o)
    numbered_good left grow a None = gives_back Spots None tt
    numbered_good left grow a (Some ns) = known_good left grow a ns

    each_good : (ps : List Part) → AnyGrow around scope ps → Gives Spots (each_late at k ss around scope s ps)
    each_good ps grow =
        let c = late_count ss ps in
        gives_bind (λ a. Unit {0}) Spots (read_ahead s) (λ a. bind (numbers_walk (take c ps) around scope) (numbered_late at k ss around s (drop c ps) a))
        (any (read_ahead s)) (λ a u.
        gives_bind (λ o. Unit {0}) Spots (numbers_walk (take c ps) around scope) (numbered_late at k ss around s (drop c ps) a)
        (any (numbers_walk (take c ps) around scope)) (λ o v. numbered_good (drop c ps) (left_grow around scope c ps grow) a o))

    late_of_base : AnyGrows (spotted_late at k ss around scope s)
    late_of_base ps grow = by (has_no_way ss (length ps))
      where
        by : (b : Bool) → Grows (if b then no_spot at else each_late at k ss around scope s ps)
            × Gives Spots (if b then no_spot at else each_late at k ss around scope s ps)
        by true = nowhere at ps grow
        by false = (each_late_grows around scope at k ss s h ps grow, each_good ps grow)

    -- whatever it says of itself
    by_base : (is_base is_late : Bool)
        → AnyGrows (λ ps. if is_base then (if is_late then spotted_late at k ss around scope s ps else part_of at k ss around scope s ps) else no_spot at)
    by_base true true = late_of_base
    by_base true false = part_of_base
    by_base false is_late = nowhere at

  within : (at : Place) (k : ℕ) (ss : List Suffix) (s : Spot) → Base around s → AnyGrows (part_within at k ss around scope s)
  within at k ss s (as_base h) = by_base at k ss s h s.is_base s.is_late
  within at k ss s (no_base e) =
      subst (λ b. AnyGrows (λ ps. if b then (if s.is_late then spotted_late at k ss around scope s ps else part_of at k ss around scope s ps) else no_spot at))
      (sym e) (nowhere at)

  then_within : (at : Place) (k : ℕ) (ss : List Suffix) (o : Option Spotted) → Spots o
      → Grows (then_spot (part_within at k ss around scope) o) × Gives Spots (then_spot (part_within at k ss around scope) o)
  then_within at k ss None h = (grows_give None, gives_back Spots None tt)
  then_within at k ss (Some s) h = within at k ss s.spot h.1.1 s.left h.0

  -- ---- each target

  abbrev GrowsSo : Target → Type 0
  GrowsSo t = AnyGrows (spotting t around scope)

  abbrev Such : Type 0
  Such = (t : Target) × GrowsSo t

  abbrev targets_of : List Such → List Target
  targets_of ys = map (λ (y : Such). y.0) ys

  weaker : (o : Option Spotted) → Spots o → SpottedGrow around scope WriteGrows o
  weaker None h = tt
  weaker (Some s) h = (h.0, h.1.0)

  as_member : (t : Target) → GrowsSo t → MemberGrows around scope (spotting t around scope)
  as_member t h ps grow = ((h ps grow).0, λ facts n. weaker (spotting t around scope ps facts n).value ((h ps grow).1 facts n))

  each_member : (ys : List Such) → AllMembersGrow around scope (map spotting (targets_of ys))
  each_member [] = none_grow around scope
  each_member (y ∷ ys) = more_grow around scope (spotting y.0) (map spotting (targets_of ys)) (as_member y.0 y.1) (each_member ys)

  module _ (at : Place) (k : ℕ) where
    tuple_good : (all : Option SpottedAll) → AllGrown around scope all → Spots (tuple_spotted at k all)
    tuple_good None e = tt
    tuple_good (Some all) e = (e.0, (tuple_write_grows at all.spots e.1 k, no_base refl))

    tuples : (ys : List Such) → AnyGrows (kind_spot at k T.Tuple (map spotting (targets_of ys)) around scope)
    tuples ys ps grow =
        let h = each_member ys ps grow in (
          grows_bind (each_spot (map spotting (targets_of ys)) around scope ps) (λ all. give (tuple_spotted at k all)) h.0 (λ all.
              grows_give (tuple_spotted at k all)),
          gives_bind (AllGrown around scope) Spots (each_spot (map spotting (targets_of ys)) around scope ps) (λ all. give (tuple_spotted at k all)) h.1
              (λ all e. gives_back Spots (tuple_spotted at k all) (tuple_good all e)),
        )

    part_of_it : (ss : List Suffix) (y : Such) → AnyGrows (kind_spot at k (T.Part ss) (spotting y.0 ∷ []) around scope)
    part_of_it ss y ps grow =
        let h = y.1 ps grow in (
          grows_bind_at Spots (spotting y.0 around scope ps) (then_spot (part_within at k ss around scope)) h.1 h.0 (λ o e. (then_within at k ss o e).0),
          gives_bind Spots Spots (spotting y.0 around scope ps) (then_spot (part_within at k ss around scope)) h.1 (λ o e. (then_within at k ss o e).1),
        )

    form_by : (kind : TargetKind) (ys : List Such) → AnyGrows (kind_spot at k kind (map spotting (targets_of ys)) around scope)
    form_by (T.Variable name) [] =
        once (held_spot around at k name (held_in name scope))
        (held_write_grows around at k name (held_in name scope), as_base (held_base around at k name (held_in name scope)))
    form_by (T.Register i) [] =
        once (register_spot around at k (slice_get around.registers i))
        (register_write_grows around at k (slice_get around.registers i), as_base (register_base around at k (slice_get around.registers i)))
    form_by (T.Call count reader writer) [] = calls at k count reader writer
    form_by T.Tuple ys = tuples ys
    form_by (T.Part ss) (y ∷ []) = part_of_it ss y
    form_by (T.Part ss) [] = nowhere at
    form_by (T.Part ss) (y ∷ x ∷ ys) = nowhere at
    form_by (T.Variable name) (y ∷ ys) = nowhere at
    form_by (T.Register i) (y ∷ ys) = nowhere at
    form_by (T.Call count reader writer) (y ∷ ys) = nowhere at

  step : (y : Target-F Such) → GrowsSo (roll-Target (map-Target Such Target (λ p. p.0) y))
  step y =
      subst (λ (s : Spotting). AnyGrows (s around scope))
      (sym (fold-roll-Target Spotting (λ u. kind_spot u.place u.number u.kind u.parts) (map-Target Such Target (λ p. p.0) y)))
      (form_by y.place y.number y.kind y.parts)

  any_grows : (t : Target) → GrowsSo t
  any_grows = ind-Target GrowsSo (λ e y same_form. subst (λ d. GrowsSo (roll-Target d)) same_form (step y))

  pub target_grows : (t : Target) → MemberGrows around scope (spotting t around scope)
  target_grows t = as_member t (any_grows t)

  pub members_grow : (ts : List Target) → AllMembersGrow around scope (map spotting ts)
  members_grow [] = none_grow around scope
  members_grow (t ∷ ts) = more_grow around scope (spotting t) (map spotting ts) (target_grows t) (members_grow ts)
