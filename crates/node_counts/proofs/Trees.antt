-- A node of any kind, and so any tree, notes no more than its parts and the numbers that are its own.
use Rattle.std.proofs.Common.{◌≡◌, ℕ, ◌+◌, ◌≤◌, Bool, true, false, List, [], ◌∷◌, ◌++◌, map, Option, Some, None, slice_get, if◌then◌else◌, sym, ap, subst}
use Rattle.std.proofs.Common.{length, refl, arith}
use Rattle.sail_base.specs.declared.place.Place.{Place}
use Rattle.sail_types.specs.declared.numbers.Con.{Con}
use Rattle.sail_types.specs.declared.numbers.Num.{Num}
use Rattle.sail_core.specs.Nodes.{joined, kind_numbers, numbers, suffix_numbers, target_numbers}
use Rattle.sail_core.specs.declared.targets.Suffix.{Suffix}
use Rattle.sail_core.specs.declared.targets.Target.{Target}
use Rattle.sail_core.specs.declared.patterns.Arm.{Arm}
use Rattle.sail_core.specs.declared.targets.Way.TheVariants as Y
use Rattle.sail_core.specs.declared.tree.Core.{Core, Core-F, fold-roll-Core, ind-Core, map-Core, roll-Core}
use Rattle.sail_core.specs.declared.tree.Kind.{Kind}
use Rattle.sail_core.specs.declared.tree.Giver.TheVariants as Gives
use Rattle.sail_core.specs.declared.tree.Kind.TheVariants as K
use Rattle.sail_core.specs.declared.written.Written.{Written}
use Rattle.sail_core.specs.declared.written.WrittenNumber.{WrittenNumber}
use Rattle.value_indices.specs.Opening.{number_or_fresh, truth_or_fresh}
use Rattle.value_indices.specs.Steps.{Walk, bind, give, owe}
use Rattle.value_indices.specs.declared.indices.Indices.{Indices}
use Rattle.value_indices.specs.declared.indices.Indices.TheVariants as I
use Rattle.value_indices.specs.declared.indices.Reading.{Reading}
use Rattle.pattern_leaves.specs.Settings.{Around, Scope, exponents_owed, held_in, written_in}
use Rattle.call_arguments.specs.Aims.{aimed}
use Rattle.call_arguments.specs.declared.aims.Aim.{Aim}
use Rattle.call_arguments.specs.declared.aims.Aim.TheVariants as Aims
use Rattle.call_notes.specs.Ends.{never_value, settled}
use Rattle.call_notes.specs.Noted.{node_ended}
use Rattle.expression_forms.specs.Nodes.{cast_ended}
use Rattle.expression_forms.specs.Sizes.{constraint_walk, side_owed, sides_owed, size_walk}
use Rattle.expression_forms.specs.Truths.{truth_of}
use Rattle.expression_steps.specs.Expressions.{assert_walk, asserted, cast_owed, cast_walk, core_part, form_walk, free_giving, goes_inward, inward, is_made}
use Rattle.expression_steps.specs.Expressions.{kind_state, kind_walk, leaf_form, leaf_walk, left_walk, made_plain}
use Rattle.expression_steps.specs.Expressions.{makes_value, node_end, option_indices, part, parted, place_walk, plain, return_owed, return_walk, settled_walk}
use Rattle.expression_steps.specs.Expressions.{throw_walk, thrown_aim, thrown_owed, thrown_type, written_ended}
use Rattle.expression_steps.specs.Parts.{Part}
use Rattle.expression_steps.specs.Statements.{let_walk}
use Rattle.expression_steps.specs.Targets.{assigned, spotting}
use Rattle.node_counts.specs.Counts.{Counted, armed, arming, giving, last_arms, making, own, times}
use Rattle.node_counts.proofs.Openings as Opened
use Rattle.node_counts.proofs.Weights.{Light, all_own, arms_all, arms_next, lights, node_own}
use Rattle.node_counts.proofs.Nodes.{In, cast_in, ended_in, few, in_both, in_first}
use Rattle.node_counts.proofs.Nodes as Nodes
use Rattle.node_counts.proofs.Nodes.{in_give, in_last, in_more, owes_light, part_light, settled_light}
use Rattle.node_counts.proofs.Nodes.{wrong_in}
use Rattle.node_counts.proofs.Parts.{Costed, PartIn, four_only, led_in, none_in, one_in, one_only, parts_of, three_only, total, truth_of_light, two_in}
use Rattle.node_counts.proofs.Parts.{two_only, walk_in}
use Rattle.node_counts.proofs.Statements.{and_in, assert_state_in, block_in, exponents_light, foreach_in, guarded_in, if_in, if_state_in, let_in, loop_in}
use Rattle.node_counts.proofs.Statements.{match_in, or_in, plain_in, try_in, var_in}
use Rattle.node_counts.proofs.Values.{call_in, cons_in, list_in, local_in, part_in, register_in, struct_in, suffixes_own, top_in, tuple_in, updates_in}
use Rattle.node_counts.proofs.Values.{variable_in, vector_in, with_in}
use Rattle.node_counts.proofs.Patterns as Matched

module _ (q : Counted) where
  pub times_both : (ks js : List ℕ) → times q (ks ++ js) ≡ times q ks + times q js
  times_both [] js = omega arith
  times_both (k ∷ ks) js = let e : times q (ks ++ js) ≡ times q ks + times q js = times_both ks js in omega (arith, e)

  suffix_times : (ss : List Suffix) → suffixes_own q false ss ≡ times q (suffix_numbers ss)
  suffix_times [] = refl
  suffix_times (s ∷ ss) = ap (λ (m : ℕ). own q s.number + m) (suffix_times ss)

  -- what is assumed of the targets of an assignment
  abbrev pub TargetsIn : Type 0
  TargetsIn =
      (place : Place) (ts : List Target) (ys : List (Costed q)) (around : Around) (scope : Scope)
      → In q (times q (joined (map target_numbers ts)) + total q ys) (assigned place (map spotting ts) around scope (parts_of q ys))

  module _ (targets : TargetsIn) where
    abbrev Fits : ℕ → Kind → List (Costed q) → {A : Type 0} → Walk A → Type 0
    Fits k kind ys {A} w = In q (own q k + (times q (kind_numbers kind) + total q ys)) w

    -- of a node that makes a value, which gives its numbers behind it; and of any other
    abbrev before_end : Kind → ℕ → ℕ
    before_end kind k = if makes_value kind then making q k else own q k

    making_before : (kind : Kind) (k : ℕ) → making q k ≤ before_end kind k
    making_before kind k = by (makes_value kind)
      where
        by : (b : Bool) → making q k ≤ (if b then making q k else own q k)
        by true = omega arith
        by false = let l : making q k + giving q k ≤ own q k = node_own q k in omega (arith, l)

    abbrev FitsBefore : ℕ → Kind → List (Costed q) → {A : Type 0} → Walk A → Type 0
    FitsBefore k kind ys {A} w = In q (before_end kind k + (times q (kind_numbers kind) + total q ys)) w

    plainly : (kind : Kind) {A : Type 0} (k : ℕ) (ys : List (Costed q)) (w : Walk A) → In q (making q k + total q ys) w → FitsBefore k kind ys w
    plainly kind k ys w h = let l : making q k ≤ before_end kind k = making_before kind k in in_more q w (omega (arith, l)) h

    lightly : (kind : Kind) {A : Type 0} (k : ℕ) (ys : List (Costed q)) (w : Walk A) → In q (total q ys) w → FitsBefore k kind ys w
    lightly kind k ys w h = in_more q w (omega arith) h

    -- one that gives the numbers of its value further in
    wholly : (kind : Kind) → makes_value kind ≡ false → {A : Type 0} (k : ℕ) (ys : List (Costed q)) (w : Walk A) → In q (own q k + total q ys) w
        → FitsBefore k kind ys w
    wholly kind e k ys w h =
        let same : before_end kind k ≡ own q k = ap (λ (b : Bool). if b then making q k else own q k) e in
        in_more q w (omega (arith, same)) h

    -- ---- `e : T`, and leaving

    written_in_node : (around : Around) (place : Place) (k : ℕ) (w : Written) (nested : Bool) (i : Indices)
        → In q (making q k) (written_ended around place k w nested i)
    written_in_node around place k w nested i =
        in_first q (cast_owed around place w nested i) (λ t. node_ended k (i ∷ []) i)
        (in_first q (exponents_owed around w.numbers) _ (exponents_light q around w) (λ t. part_light q around nested place i (written_in around w)))
        (λ t. ended_in q k (i ∷ []) i)

    cast_walk_in : (place : Place) (k : ℕ) (o : Option Written) (y : Costed q) (around : Around) (scope : Scope) (aim : Aim)
        → In q (making q k + y.cost) (cast_walk place k o y.part around scope aim)
    cast_walk_in place k None y around scope aim = in_more q (y.part.walk around scope aim) (omega arith) (walk_in q y around scope aim)
    cast_walk_in place k (Some w) y around scope aim =
        in_more q (cast_walk place k (Some w) y.part around scope aim) (omega arith)
        (in_both q (y.part.walk around scope (aimed Aims.Given (written_in around w))) (written_ended around place k w y.part.is_nested)
        (walk_in q y around scope (aimed Aims.Given (written_in around w))) (written_in_node around place k w y.part.is_nested))

    return_owed_light : (around : Around) (place : Place) (nested : Bool) (r : Reading) (i : Indices) → In q 0 (return_owed around place nested r i)
    return_owed_light around place nested r i = in_first q _ (λ t. never_value) (part_light q around nested place i r) (λ t. in_give q I.Never)

    return_in : (place : Place) (y : Costed q) (around : Around) (scope : Scope) (o : Option Reading) → In q y.cost (return_walk place y.part around scope o)
    return_in place y around scope None = wrong_in q place
    return_in place y around scope (Some r) =
        in_more q (return_walk place y.part around scope (Some r)) (omega arith)
        (in_last q (y.part.walk around scope (aimed Aims.Given r)) (return_owed around place y.part.is_nested r) (walk_in q y around scope (aimed Aims.Given r))
        (return_owed_light around place y.part.is_nested r))

    thrown_light : (around : Around) (place : Place) (nested : Bool) (o : Option ℕ) (i : Indices) → In q 0 (thrown_owed around place nested o i)
    thrown_light around place nested None i = wrong_in q place
    thrown_light around place nested (Some u) i = return_owed_light around place nested (thrown_type u) i

    throw_in : (place : Place) (y : Costed q) (around : Around) (scope : Scope) (o : Option ℕ) → In q y.cost (throw_walk place y.part around scope o)
    throw_in place y around scope o =
        in_more q (throw_walk place y.part around scope o) (omega arith)
        (in_last q (y.part.walk around scope (thrown_aim o)) (thrown_owed around place y.part.is_nested o) (walk_in q y around scope (thrown_aim o))
        (thrown_light around place y.part.is_nested o))

    left_in : (y : Costed q) (around : Around) (scope : Scope) → In q y.cost (left_walk y.part around scope Aims.Free)
    left_in y around scope =
        in_more q (left_walk y.part around scope Aims.Free) (omega arith)
        (in_last q (y.part.walk around scope Aims.Free) (λ i. never_value) (walk_in q y around scope Aims.Free) (λ i. in_give q I.Never))

    assert_in : (y : Costed q) (around : Around) (scope : Scope) → In q y.cost (assert_walk y.part around scope)
    assert_in y around scope =
        in_more q (assert_walk y.part around scope) (omega arith)
        (in_last q (y.part.walk around scope Aims.Free) (asserted y.part.place) (walk_in q y around scope Aims.Free) (λ i.
        in_first q (truth_of y.part.place i) (λ c. give I.Unit) (truth_of_light q y.part.place i) (λ c. in_give q I.Unit)))

    free_giving_in : (y : Costed q) (around : Around) (scope : Scope) (i : Indices) → In q y.cost (free_giving y.part around scope i)
    free_giving_in y around scope i =
        in_more q (free_giving y.part around scope i) (omega arith)
        (in_last q (y.part.walk around scope Aims.Free) (λ j. give i) (walk_in q y around scope Aims.Free) (λ j. in_give q i))

    -- ---- kinds that take a wanted type further in

    place_in : (k : ℕ) (y : Costed q) (around : Around) (scope : Scope) (aim : Aim) → In q (making q k + y.cost) (place_walk k y.part around scope aim)
    place_in k y around scope aim =
        in_more q (place_walk k y.part around scope aim) (omega arith)
        (in_both q (y.part.walk around scope aim) (cast_ended k aim) (walk_in q y around scope aim) (cast_in q k aim))

    arms_own : (k n : ℕ) → last_arms q k n ≤ own q k
    arms_own k n =
        let l : making q k + (giving q k + armed q k) ≤ own q k = all_own q k in
        let m : last_arms q k n ≤ armed q k = arms_all q k n in omega (arith, l, m)

    let_own : (k : ℕ) (place : Place) (arm : Arm) (a b : Costed q) (around : Around) (scope : Scope) (aim : Aim)
        → In q (own q k + (a.cost + b.cost)) (let_walk (Gives.Arm k 0) place arm a.part b.part around scope aim)
    let_own k place arm a b around scope aim =
        let l : arming q k 0 + last_arms q k 0 ≤ last_arms q k 1 = arms_next q k 0 in
        let m : last_arms q k 1 ≤ own q k = arms_own k 1 in
        in_more q (let_walk (Gives.Arm k 0) place arm a.part b.part around scope aim) (omega (arith, l, m)) (let_in q k 0 place arm a b around scope aim)

    inward_in : (place : Place) (k : ℕ) (kind : Kind) (ys : List (Costed q)) (around : Around) (scope : Scope) (aim : Aim)
        → FitsBefore k kind ys (inward place k kind (parts_of q ys) around scope aim)
    inward_in place k (K.Cast None) ys around scope aim =
        plainly (K.Cast None) k ys (inward place k (K.Cast None) (parts_of q ys) around scope aim) (one_in q _ place _ ys (λ y. place_in k y around scope aim))
    inward_in place k (K.Block ss) ys around scope aim =
        let l : last_arms q k (length ss) ≤ own q k = arms_own k (length ss) in
        wholly (K.Block ss) refl k ys (inward place k (K.Block ss) (parts_of q ys) around scope aim)
        (in_more q (inward place k (K.Block ss) (parts_of q ys) around scope aim) (omega (arith, l)) (block_in q place k ss ys around scope aim))
    inward_in place k (K.Let arm) ys around scope aim =
        wholly (K.Let arm) refl k ys (inward place k (K.Let arm) (parts_of q ys) around scope aim)
        (two_in q (own q k) place _ ys (λ a b. let_own k place arm a b around scope aim))
    inward_in place k (K.Var name written) ys around scope aim =
        lightly (K.Var name written) k ys (inward place k (K.Var name written) (parts_of q ys) around scope aim)
        (two_only q place _ ys (λ a b. var_in q name written a b around scope aim))
    inward_in place k (K.If shape) ys around scope aim =
        wholly (K.If shape) refl k ys (inward place k (K.If shape) (parts_of q ys) around scope aim) (if_in q place k shape ys around scope aim)
    inward_in place k (K.Match arms shape) ys around scope aim =
        wholly (K.Match arms shape) refl k ys (inward place k (K.Match arms shape) (parts_of q ys) around scope aim)
        (led_in q _ place _ ys (λ a zs. match_in q place k shape arms a zs around scope aim))
    inward_in place k (K.Try arms shape) ys around scope aim =
        wholly (K.Try arms shape) refl k ys (inward place k (K.Try arms shape) (parts_of q ys) around scope aim)
        (led_in q _ place _ ys (λ a zs. try_in q place k shape arms a zs around scope aim))
    inward_in place k K.When ys around scope aim =
        lightly K.When k ys (inward place k K.When (parts_of q ys) around scope aim) (two_only q place _ ys (λ a b. guarded_in q a b around scope aim))
    inward_in place k kind ys around scope aim = wrong_in q place

    -- ---- leaves

    sides_light : (around : Around) (ns : List WrittenNumber) → In q 0 (sides_owed around ns)
    sides_light around [] = in_give q tt
    sides_light around (n ∷ ns) =
        in_first q (owe n.place (side_owed around n n.role)) (λ t. sides_owed around ns) (owes_light q n.place _) (λ t. sides_light around ns)

    size_light : (place : Place) (t : Num) (ns : List WrittenNumber) (around : Around) → In q 0 (size_walk place t ns around)
    size_light place t ns around =
        in_first q (exponents_owed around ns) _ (Matched.exponents_kept (Light q) (lights q) around ns) (λ x.
        in_first q (owe place _) _ (owes_light q place _) (λ y.
        in_first q (number_or_fresh _) (λ n. give (I.Integer n)) (Opened.number_kept (Light q) (lights q) _) (λ n. in_give q _)))

    constraint_light : (place : Place) (c : Con) (ns : List WrittenNumber) (around : Around) → In q 0 (constraint_walk place c ns around)
    constraint_light place c ns around =
        in_first q (sides_owed around ns) _ (sides_light around ns) (λ t.
        in_first q (owe place _) _ (owes_light q place _) (λ x.
        in_first q (truth_or_fresh _) (λ d. give (I.Truth d)) (Opened.truth_kept (Light q) (lights q) _) (λ d. in_give q _)))

    leaf_in : (place : Place) (k : ℕ) (kind : Kind) (around : Around) (scope : Scope) → In q (making q k) (leaf_form place k kind around scope)
    leaf_in place k (K.Constant literal) around scope = in_give q _
    leaf_in place k (K.Local name) around scope = local_in q place k (held_in name scope)
    leaf_in place k (K.Variable name) around scope = variable_in q place k name (held_in name scope)
    leaf_in place k (K.TopLevel i) around scope = top_in q around.types place k (slice_get around.lets i)
    leaf_in place k (K.Register r) around scope = register_in q place k (slice_get around.registers r)
    leaf_in place k (K.SizeOf t ns) around scope = few q (size_walk place t ns around) (size_light place t ns around)
    leaf_in place k (K.Constraint c ns) around scope = few q (constraint_walk place c ns around) (constraint_light place c ns around)
    leaf_in place k kind around scope = wrong_in q place

    leaves_in : (place : Place) (k : ℕ) (kind : Kind) (ys : List (Costed q)) (around : Around) (scope : Scope)
        → FitsBefore k kind ys (leaf_walk place k kind (parts_of q ys) around scope)
    leaves_in place k kind ys around scope =
        plainly kind k ys (leaf_walk place k kind (parts_of q ys) around scope)
        (none_in q place (leaf_form place k kind around scope) ys (leaf_in place k kind around scope))

    -- ---- kinds whose parts are walked from left to right

    made_in_order : (place : Place) (k : ℕ) (kind : Kind) (ys : List (Costed q)) (around : Around) (scope : Scope) (aim : Aim)
        → FitsBefore k kind ys (made_plain place k kind (parts_of q ys) around scope aim)
    made_in_order place k (K.Call callee) ys around scope aim =
        plainly (K.Call callee) k ys (made_plain place k (K.Call callee) (parts_of q ys) around scope aim) (call_in q place k callee ys around scope aim)
    made_in_order place k (K.Cast o) ys around scope aim =
        plainly (K.Cast o) k ys (made_plain place k (K.Cast o) (parts_of q ys) around scope aim)
        (one_in q _ place _ ys (λ y. cast_walk_in place k o y around scope aim))
    made_in_order place k K.Tuple ys around scope aim =
        plainly K.Tuple k ys (made_plain place k K.Tuple (parts_of q ys) around scope aim) (tuple_in q k ys around scope aim)
    made_in_order place k (K.Cons shape) ys around scope aim =
        plainly (K.Cons shape) k ys (made_plain place k (K.Cons shape) (parts_of q ys) around scope aim)
        (two_in q _ place _ ys (λ a b. cons_in q k shape a b around scope aim))
    made_in_order place k (K.Struct u ks) ys around scope aim =
        plainly (K.Struct u ks) k ys (made_plain place k (K.Struct u ks) (parts_of q ys) around scope aim) (struct_in q k u ks ys around scope)
    made_in_order place k K.Return ys around scope aim =
        lightly K.Return k ys (made_plain place k K.Return (parts_of q ys) around scope aim)
        (one_only q place _ ys (λ y. return_in place y around scope around.answer))
    made_in_order place k K.Throw ys around scope aim =
        lightly K.Throw k ys (made_plain place k K.Throw (parts_of q ys) around scope aim)
        (one_only q place _ ys (λ y. throw_in place y around scope around.exception))
    made_in_order place k K.Exit ys around scope aim =
        lightly K.Exit k ys (made_plain place k K.Exit (parts_of q ys) around scope aim) (one_only q place _ ys (λ y. left_in y around scope))
    made_in_order place k (K.Assert text) ys around scope aim =
        lightly (K.Assert text) k ys (made_plain place k (K.Assert text) (parts_of q ys) around scope aim)
        (one_only q place _ ys (λ y. assert_in y around scope))
    made_in_order place k (K.Optional t) ys around scope aim =
        lightly (K.Optional t) k ys (made_plain place k (K.Optional t) (parts_of q ys) around scope aim)
        (one_only q place _ ys (λ y. free_giving_in y around scope (option_indices t)))
    made_in_order place k kind ys around scope aim = leaves_in place k kind ys around scope

    parted_in : (place : Place) (k : ℕ) (kind : Kind) (ys : List (Costed q)) (around : Around) (scope : Scope) (aim : Aim)
        → FitsBefore k kind ys (parted place k kind (parts_of q ys) around scope aim)
    parted_in place k K.And ys around scope aim =
        lightly K.And k ys (parted place k K.And (parts_of q ys) around scope aim) (two_only q place _ ys (λ a b. and_in q a b around scope))
    parted_in place k K.Or ys around scope aim =
        lightly K.Or k ys (parted place k K.Or (parts_of q ys) around scope aim) (two_only q place _ ys (λ a b. or_in q a b around scope))
    parted_in place k (K.Vector shape) ys around scope aim =
        plainly (K.Vector shape) k ys (parted place k (K.Vector shape) (parts_of q ys) around scope aim) (vector_in q place k shape ys around scope aim)
    parted_in place k (K.List shape) ys around scope aim =
        plainly (K.List shape) k ys (parted place k (K.List shape) (parts_of q ys) around scope aim) (list_in q place k shape ys around scope aim)
    parted_in place k (K.With u ks) ys around scope aim =
        plainly (K.With u ks) k ys (parted place k (K.With u ks) (parts_of q ys) around scope aim)
        (led_in q _ place _ ys (λ a zs. with_in q place k u ks a zs around scope))
    parted_in place k (K.Part ss) ys around scope aim =
        let e : suffixes_own q false ss ≡ times q (suffix_numbers ss) = suffix_times ss in
        in_more q (parted place k (K.Part ss) (parts_of q ys) around scope aim) (omega (arith, e)) (part_in q place ss ys around scope)
    parted_in place k K.WithItem ys around scope aim =
        plainly K.WithItem k ys (parted place k K.WithItem (parts_of q ys) around scope aim) (updates_in q place k Y.Item ys around scope)
    parted_in place k K.WithSlice ys around scope aim =
        plainly K.WithSlice k ys (parted place k K.WithSlice (parts_of q ys) around scope aim) (updates_in q place k Y.Slice ys around scope)
    parted_in place k (K.Assign ts) ys around scope aim =
        in_more q (parted place k (K.Assign ts) (parts_of q ys) around scope aim) (omega arith) (targets place ts ys around scope)
    parted_in place k (K.Foreach name way) ys around scope aim =
        lightly (K.Foreach name way) k ys (parted place k (K.Foreach name way) (parts_of q ys) around scope aim)
        (four_only q place _ ys (λ a b c y. foreach_in q place name way a b c y around scope))
    parted_in place k K.While ys around scope aim =
        lightly K.While k ys (parted place k K.While (parts_of q ys) around scope aim) (three_only q place _ ys (λ m a b. loop_in q true m a b around scope))
    parted_in place k K.Repeat ys around scope aim =
        lightly K.Repeat k ys (parted place k K.Repeat (parts_of q ys) around scope aim) (three_only q place _ ys (λ m a b. loop_in q false m a b around scope))
    parted_in place k kind ys around scope aim = wrong_in q place

    -- ---- any kind

    plain_kind_in : (place : Place) (k : ℕ) (kind : Kind) (ys : List (Costed q)) (around : Around) (scope : Scope) (aim : Aim)
        → FitsBefore k kind ys (plain place k kind (parts_of q ys) around scope aim)
    plain_kind_in place k kind ys around scope aim = by (is_made kind)
      where
        by : (b : Bool) → FitsBefore k kind ys (if b then made_plain place k kind (parts_of q ys) around scope aim else parted place k kind
            (parts_of q ys) around scope aim)
        by true = made_in_order place k kind ys around scope aim
        by false = parted_in place k kind ys around scope aim

    form_in : (place : Place) (k : ℕ) (kind : Kind) (ys : List (Costed q)) (around : Around) (scope : Scope) (aim : Aim)
        → FitsBefore k kind ys (form_walk place k kind (parts_of q ys) around scope aim)
    form_in place k kind ys around scope aim = by (goes_inward kind)
      where
        by : (b : Bool) → FitsBefore k kind ys (if b then inward place k kind (parts_of q ys) around scope aim else settled_walk place k kind
            (parts_of q ys) around scope aim)
        by true = inward_in place k kind ys around scope aim
        by false =
            in_last q (plain place k kind (parts_of q ys) around scope aim) (settled around place aim) (plain_kind_in place k kind ys around scope aim)
            (settled_light q around place aim)

    pub kind_in : (place : Place) (k : ℕ) (kind : Kind) (ys : List (Costed q)) (around : Around) (scope : Scope) (aim : Aim)
        → Fits k kind ys (kind_walk place k kind (parts_of q ys) around scope aim)
    kind_in place k kind ys around scope aim = by (makes_value kind) refl
      where
        by : (b : Bool) → makes_value kind ≡ b → Fits k kind ys (bind (form_walk place k kind (parts_of q ys) around scope aim) (node_end k b))
        by true e =
            let same : before_end kind k ≡ making q k = ap (λ (c : Bool). if c then making q k else own q k) e in
            let l : making q k + giving q k ≤ own q k = node_own q k in
            in_more q (bind (form_walk place k kind (parts_of q ys) around scope aim) (node_end k true)) (omega (arith, same, l))
            (in_both q (form_walk place k kind (parts_of q ys) around scope aim) (node_end k true) (form_in place k kind ys around scope aim)
            (λ i. Nodes.node_in q k i))
        by false e =
            let same : before_end kind k ≡ own q k = ap (λ (c : Bool). if c then making q k else own q k) e in
            in_more q (bind (form_walk place k kind (parts_of q ys) around scope aim) (node_end k false)) (omega (arith, same))
            (in_last q (form_walk place k kind (parts_of q ys) around scope aim) (node_end k false) (form_in place k kind ys around scope aim)
            (λ i. in_give q i))

    pub state_in : (place : Place) (k : ℕ) (kind : Kind) (ys : List (Costed q)) (around : Around) (scope : Scope)
        → Fits k kind ys (kind_state place k kind (parts_of q ys) around scope)
    state_in place k (K.If shape) ys around scope =
        in_more q (kind_state place k (K.If shape) (parts_of q ys) around scope) (omega arith) (if_state_in q place k shape ys around scope)
    state_in place k (K.Assert text) ys around scope =
        in_more q (kind_state place k (K.Assert text) (parts_of q ys) around scope) (omega arith) (assert_state_in q place ys around scope)
    state_in place k kind ys around scope =
        plain_in q (kind_walk place k kind (parts_of q ys) around scope Aims.Free) (kind_in place k kind ys around scope Aims.Free)

    -- ---- a tree

    abbrev TreeIn : Core → Type 0
    TreeIn c = PartIn q (times q (numbers c)) (part c)

    abbrev Such : Type 0
    Such = (c : Core) × TreeIn c

    abbrev bare : List Such → List Core
    bare ys = map (λ (y : Such). y.0) ys

    costed : Such → Costed q
    costed y = record { part = part y.0; cost = times q (numbers y.0); within = y.1 }

    abbrev costs : List Such → List (Costed q)
    costs ys = map costed ys

    same_parts : (ys : List Such) → map part (bare ys) ≡ parts_of q (costs ys)
    unfolding costed
    same_parts [] = refl
    same_parts (y ∷ ys) = ap (λ ps. part y.0 ∷ ps) (same_parts ys)

    same_total : (ys : List Such) → total q (costs ys) ≡ times q (joined (map numbers (bare ys)))
    unfolding costed
    same_total [] = refl
    same_total (y ∷ ys) =
        let e : times q (numbers y.0 ++ joined (map numbers (bare ys))) ≡ times q (numbers y.0) + times q (joined (map numbers (bare ys))) =
        times_both (numbers y.0) (joined (map numbers (bare ys))) in
        let f : total q (costs ys) ≡ times q (joined (map numbers (bare ys))) = same_total ys in omega (arith, e, f)

    node_in : (y : Core-F Such) → TreeIn (roll-Core (map-Core Such Core (λ p. p.0) y))
    node_in y =
        let d : Core-F Core = map-Core Such Core (λ p. p.0) y in
        let ps : List Part = map part d.parts in
        let c : Core-F Part = record { place = d.place; number = d.number; kind = d.kind; parts = ps } in
        let ns : List ℕ = joined (map numbers d.parts) in
        let both : times q (kind_numbers d.kind ++ ns) ≡ times q (kind_numbers d.kind) + times q ns = times_both (kind_numbers d.kind) ns in
        let sums : total q (costs y.parts) ≡ times q ns = same_total y.parts in
        let all : List ℕ = d.number ∷ kind_numbers d.kind ++ ns in
        let budget : own q d.number + (times q (kind_numbers d.kind) + total q (costs y.parts)) ≤ times q all = omega (arith, both, sums) in
        let inner : PartIn q (times q all) (core_part c) =
        subst (λ (xs : List Part). PartIn q (times q all) (core_part (record { place = d.place; number = d.number; kind = d.kind; parts = xs })))
        (sym (same_parts y.parts)) (
          (λ around scope aim. in_more q (kind_walk d.place d.number d.kind (parts_of q (costs y.parts)) around scope aim) budget
              (kind_in d.place d.number d.kind (costs y.parts) around scope aim)),
          (λ around scope. in_more q (kind_state d.place d.number d.kind (parts_of q (costs y.parts)) around scope) budget
              (state_in d.place d.number d.kind (costs y.parts) around scope)),
        ) in
        subst (λ (p : Part). PartIn q (times q (numbers (roll-Core d))) p) (sym (fold-roll-Core Part core_part d))
        (subst (λ (ks : List ℕ). PartIn q (times q ks) (core_part c))
        (sym (fold-roll-Core (List ℕ) (λ c. c.number ∷ kind_numbers c.kind ++ joined c.parts) d)) inner)

    pub tree_in : (c : Core) → TreeIn c
    tree_in = ind-Core TreeIn (λ c y e. subst (λ d. TreeIn (roll-Core d)) e (node_in y))
