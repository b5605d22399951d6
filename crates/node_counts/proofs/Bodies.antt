-- What is read of a definition notes no more than the numbers of its trees.
use Rattle.std.proofs.Common.{◌≡◌, ℕ, suc, ◌+◌, ◌≤◌, Bool, true, false, List, [], ◌∷◌, ◌++◌, map, Option, Some, None, slice_get, sym, ap}
use Rattle.std.proofs.Common.{length, refl, ◌∙◌, arith}
use Rattle.sail_base.specs.declared.place.Place.{Place}
use Rattle.sail_types.specs.declared.numbers.Con.{Con, out-Con}
use Rattle.sail_types.specs.declared.numbers.Con.TheVariants as C
use Rattle.sail_types.specs.declared.numbers.Index.{Index}
use Rattle.sail_types.specs.declared.table.Parameter.{Parameter}
use Rattle.sail_types.specs.declared.types.Typ.{Typ}
use Rattle.model_state.specs.declared.state.Register.{Register}
use Rattle.sail_core.specs.Nodes.{joined, kind_numbers, numbers}
use Rattle.sail_core.specs.declared.model.Direction.{Direction}
use Rattle.sail_core.specs.declared.model.Function.{Function}
use Rattle.sail_core.specs.declared.model.Opening.{Opening}
use Rattle.sail_core.specs.declared.model.OpeningKind.{OpeningKind}
use Rattle.sail_core.specs.declared.model.OpeningKind.TheVariants as O
use Rattle.sail_core.specs.declared.patterns.Arm.{Arm}
use Rattle.sail_core.specs.declared.patterns.Pattern.{Pattern, out-Pattern}
use Rattle.sail_core.specs.declared.tree.Core.{Core, Core-F, fold-roll-Core, out-Core, roll-out-Core}
use Rattle.sail_core.specs.declared.tree.Giver.TheVariants as Gives
use Rattle.sail_core.specs.declared.tree.Kind.TheVariants as K
use Rattle.sail_core.specs.declared.written.WrittenNumber.{WrittenNumber}
use Rattle.value_indices.specs.Opening.{opened, opening}
use Rattle.value_indices.specs.Steps.{Note, Walk, assume, bind, call_note, fresh_named, give, given_note, goal_note, made_note, name_note, note, size_note}
use Rattle.value_indices.specs.Steps.{way_note}
use Rattle.value_indices.specs.declared.indices.Indices.{Indices}
use Rattle.value_indices.specs.declared.indices.Reading.{Reading}
use Rattle.value_indices.specs.declared.indices.Reading.TheVariants as R
use Rattle.value_indices.specs.declared.notes.Fact.{Fact}
use Rattle.value_indices.specs.declared.notes.Made.TheVariants as Makes
use Rattle.pattern_leaves.specs.Settings.{Around, exponents_owed}
use Rattle.pattern_notes.specs.Patterns.{Look, arm_match, look, looks, nested}
use Rattle.call_arguments.specs.Aims.{aimed}
use Rattle.call_arguments.specs.Placing.{is_trivial_form}
use Rattle.call_arguments.specs.declared.aims.Aim.{Aim}
use Rattle.call_arguments.specs.declared.aims.Aim.TheVariants as Aims
use Rattle.call_notes.specs.Noted.{names_given, node_given, node_made, numbers_noted}
use Rattle.expression_forms.specs.Nodes.{cast_ended}
use Rattle.expression_steps.specs.Expressions.{kind_state, kind_walk, part}
use Rattle.expression_steps.specs.Parts.{Part}
use Rattle.expression_steps.specs.Statements.{natural_type}
use Rattle.function_notes.specs.Functions.{arm_of, as_it_is, bare_part, behind_part, body_part, cast_over, clause_names, clause_walk, comes_to_result}
use Rattle.function_notes.specs.Functions.{comes_to_written, constrained, in_clause, inside_function, last_made, last_of, only, other_looks}
use Rattle.function_notes.specs.Functions.{own_index}
use Rattle.function_notes.specs.Functions.{own_indices, parameter_naming, parameter_opened, parameters_opened, passed_over, reading_under}
use Rattle.function_notes.specs.Functions.{result_part, variable_index}
use Rattle.constraint_gen.specs.Models.{apart, initial_aim, initial_of, let_walk, opening_walk}
use Rattle.size_notes.specs.Behind.{arm_sizes, found_in, node_of, notes_with, sizes_behind, sizes_noted}
use Rattle.size_notes.specs.Bodies.{alone, arm_read, arms_read, beforehand, both_read, clause_inside, clause_read, clauses_read, declared_read, function_arms}
use Rattle.size_notes.specs.Bodies.{function_read}
use Rattle.size_notes.specs.Bodies.{kind_arms, last_inside, last_read, mapping_read, measure_read, measured_read, opening_behind, opening_read, parameter_read}
use Rattle.size_notes.specs.Bodies.{parameters_read, pattern_place, result_read, sized_body, sizes_read, way_read}
use Rattle.size_notes.specs.declared.behind.Behind.{Behind}
use Rattle.size_notes.specs.declared.written.WrittenSize.{WrittenSize}
use Rattle.node_counts.specs.Counts.{Counted, armed, arming, giving, last_arms, making, mass, own, times, weigh}
use Rattle.node_counts.proofs.Budgets.{mass_both, within_scoped}
use Rattle.node_counts.proofs.Openings as Opened
use Rattle.node_counts.proofs.Patterns as Matched
use Rattle.node_counts.proofs.Weights.{Light, all_own, arms_all, arms_next, lights, node_own}
use Rattle.node_counts.proofs.Nodes.{In, cast_in, few, in_both, in_either, in_first, in_give, in_last, in_more, made_in, names_given_in, node_in}
use Rattle.node_counts.proofs.Nodes.{noted_in}
use Rattle.node_counts.proofs.Parts.{Costed, PartIn}
use Rattle.node_counts.proofs.Statements.{names_in}
use Rattle.node_counts.proofs.Trees.{TargetsIn, kind_in, state_in, times_both, tree_in}

module _ (q : Counted) where
  -- ---- the sizes that are written in a body are of no node

  sizes_mass : (facts : List Fact) (ss : List WrittenSize) → mass (weigh q) (sizes_noted facts ss) ≡ 0
  sizes_mass facts [] = refl
  sizes_mass facts (s ∷ ss) = let e : mass (weigh q) (sizes_noted facts ss) ≡ 0 = sizes_mass facts ss in omega (arith, e)

  with_mass : (bs : List Behind) (ns : List Note) → mass (weigh q) (notes_with bs ns) ≡ mass (weigh q) ns
  with_mass bs [] = refl
  with_mass bs (made_note facts k is made ∷ ns) =
      let w : Note = made_note facts k is made in
      let e : mass (weigh q) (sizes_noted facts (sizes_behind k bs) ++ notes_with bs ns)
      ≡ mass (weigh q) (sizes_noted facts (sizes_behind k bs)) + mass (weigh q) (notes_with bs ns) =
      mass_both (weigh q) (sizes_noted facts (sizes_behind k bs)) (notes_with bs ns) in
      let f : mass (weigh q) (sizes_noted facts (sizes_behind k bs)) ≡ 0 = sizes_mass facts (sizes_behind k bs) in
      let g : mass (weigh q) (notes_with bs ns) ≡ mass (weigh q) ns = with_mass bs ns in
      ap (λ (m : ℕ). weigh q w + m) (omega (arith, e, f, g))
  with_mass bs (goal_note facts place c ∷ ns) = ap (λ (m : ℕ). 0 + m) (with_mass bs ns)
  with_mass bs (size_note facts place made ∷ ns) = ap (λ (m : ℕ). 0 + m) (with_mass bs ns)
  with_mass bs (call_note facts place k is callee js qs ∷ ns) = ap (λ (m : ℕ). weigh q (call_note facts place k is callee js qs) + m) (with_mass bs ns)
  with_mass bs (way_note facts d ∷ ns) = ap (λ (m : ℕ). 0 + m) (with_mass bs ns)
  with_mass bs (given_note facts k i ∷ ns) = ap (λ (m : ℕ). weigh q (given_note facts k i) + m) (with_mass bs ns)
  with_mass bs (name_note v name ∷ ns) = ap (λ (m : ℕ). 0 + m) (with_mass bs ns)

  alone_in : {A : Type 0} {b : ℕ} (bs : List Behind) (w : Walk A) → In q b w → In q b (alone bs w)
  unfolding alone
  alone_in {b = b} bs w h facts n =
      let e : mass (weigh q) (notes_with bs (w [] n).notes) ≡ mass (weigh q) (w [] n).notes = with_mass bs (w [] n).notes in
      let l : mass (weigh q) (w [] n).notes ≤ b = h [] n in omega (arith, e, l)

  beforehand_in : {b : ℕ} (w : Walk (Unit {0})) → In q b w → In q b (beforehand w)
  unfolding beforehand
  beforehand_in w h facts n = h facts n

  -- ---- steps of no node

  opening_light : (r : Reading) (tells : Bool) (ps : List Look) → In q 0 (opening r tells (parameter_naming ps))
  opening_light r tells ps = Opened.opening_kept (Light q) (lights q) r tells (parameter_naming ps)

  constrained_light : (c : Con) → In q 0 (constrained c)
  constrained_light c = in_either q (is_trivial_form (out-Con c)) (give tt) (assume c) (in_give q tt) ((lights q).assumes c)

  size_light : (place : Place) (s : Indices) → In q 0 (note (λ facts. size_note facts place (Makes.ByIndices s)))
  size_light place s = (lights q).sizes place (Makes.ByIndices s)

  sizes_light : (ss : List WrittenSize) → In q 0 (sizes_read ss)
  sizes_light [] = in_give q tt
  sizes_light (s ∷ ss) =
      in_first q (note (λ facts. size_note facts s.place (Makes.ByIndices s.size))) (λ x. sizes_read ss) (size_light s.place s.size) (λ x. sizes_light ss)

  parameter_light : (is : List Index) (p : Pattern) (t : Typ) → In q 0 (parameter_read is p t)
  parameter_light is p t =
      in_first q (note (λ facts. size_note facts (pattern_place (out-Pattern p)) (Makes.ByType (reading_under t is))))
      (λ x. opening (reading_under t is) true (look p).naming)
      ((lights q).sizes (pattern_place (out-Pattern p)) (Makes.ByType (reading_under t is)))
      (λ x. Opened.opening_kept (Light q) (lights q) (reading_under t is) true (look p).naming)

  parameters_light : (is : List Index) (ps : List Pattern) (ts : List Typ) → In q 0 (parameters_read is ps ts)
  parameters_light is [] ts = in_give q tt
  parameters_light is (p ∷ ps) [] = in_give q tt
  parameters_light is (p ∷ ps) (t ∷ ts) =
      in_first q (parameter_read is p t) (λ i. parameters_read is ps ts) (parameter_light is p t) (λ i. parameters_light is ps ts)

  arm_light : (around : Around) (ts : List Typ) (arm : Arm) → In q 0 (arm_read around ts arm)
  arm_light around ts arm =
      in_first q (parameters_read around.numbers (nested arm) ts) (λ x. sizes_read (arm_sizes around.numbers arm))
      (parameters_light around.numbers (nested arm) ts) (λ x. sizes_light (arm_sizes around.numbers arm))

  opened_light : (ps : List Look) (is : List Index) (ts : List Typ) → In q 0 (parameters_opened ps is ts)
  opened_light ps is [] = in_give q []
  opened_light ps is (t ∷ ts) =
      in_first q (parameter_opened ps is t) (λ i. bind (parameters_opened (other_looks ps) is ts) (λ more. give (i ∷ more)))
      (opening_light (reading_under t is) true ps) (λ i.
      in_first q (parameters_opened (other_looks ps) is ts) (λ more. give (i ∷ more)) (opened_light (other_looks ps) is ts) (λ more. in_give q _))

  own_light : (p : Parameter) → In q 0 (own_index p)
  own_light p = in_first q (fresh_named p.name) (λ v. give (variable_index p.kind v)) ((lights q).names p.name) (λ v. in_give q _)

  all_own_light : (ps : List Parameter) → In q 0 (own_indices ps)
  all_own_light ps = Opened.each_kept (Light q) (lights q) own_index own_light ps

  -- ---- trees

  numbers_are : (c : Core) → times q (numbers c)
      ≡ own q (out-Core c).number + (times q (kind_numbers (out-Core c).kind) + times q (joined (map numbers (out-Core c).parts)))
  numbers_are c =
      let d : Core-F Core = out-Core c in
      let e : numbers c ≡ d.number ∷ kind_numbers d.kind ++ joined (map numbers d.parts) =
      ap numbers (sym (roll-out-Core c)) ∙ fold-roll-Core (List ℕ) (λ c. c.number ∷ kind_numbers c.kind ++ joined c.parts) d in
      let f : times q (kind_numbers d.kind ++ joined (map numbers d.parts)) ≡ times q (kind_numbers d.kind) + times q (joined (map numbers d.parts)) =
      times_both q (kind_numbers d.kind) (joined (map numbers d.parts)) in
      ap (times q) e ∙ ap (λ (m : ℕ). own q d.number + m) f

  part_more : {a b : ℕ} (p : Part) → a ≤ b → PartIn q a p → PartIn q b p
  part_more p l h = (
    (λ around scope aim. in_more q (p.walk around scope aim) l (h.0 around scope aim)),
    (λ around scope. in_more q (p.state around scope) l (h.1 around scope)),
  )

  module _ (targets : TargetsIn q) where
    abbrev whole : Core → Costed q
    whole c = record { part = part c; cost = times q (numbers c); within = tree_in q targets c }

    over_in : (c : Core-F Core) (a : Costed q) → PartIn q (own q c.number + a.cost) (cast_over c a.part)
    over_in c a = (
      (λ around scope aim. in_more q (kind_walk c.place c.number (K.Cast None) (a.part ∷ []) around scope aim) (omega arith)
          (kind_in q targets c.place c.number (K.Cast None) (a ∷ []) around scope aim)),
      (λ around scope. in_more q (kind_state c.place c.number (K.Cast None) (a.part ∷ []) around scope) (omega arith)
          (state_in q targets c.place c.number (K.Cast None) (a ∷ []) around scope)),
    )

    as_it_is_in : (k b : ℕ) (w : Walk Indices) → In q b w → In q (own q k + b) (as_it_is k w)
    as_it_is_in k b w h =
        let l : making q k + giving q k ≤ own q k = node_own q k in
        in_more q (as_it_is k w) (omega (arith, l))
        (in_both q (bind w (cast_ended k Aims.Free)) (node_given k) (in_both q w (cast_ended k Aims.Free) h (λ i. cast_in q k Aims.Free i))
        (λ i. node_in q k i))

    passed_in : (c : Core-F Core) (a : Costed q) → PartIn q (own q c.number + a.cost) (passed_over c a.part)
    passed_in c a =
        ((λ around scope aim. as_it_is_in c.number a.cost (a.part.walk around scope aim) (a.within.0 around scope aim)), (over_in c a).1)

    -- the budget of the one part of a node
    one_cost : (c x : Core) → own q (out-Core c).number + times q (joined (map numbers (x ∷ []))) ≤ times q (numbers c)
        → own q (out-Core c).number + times q (numbers x) ≤ times q (numbers c)
    one_cost c x l = let e : times q (numbers x ++ []) ≡ times q (numbers x) + 0 = times_both q (numbers x) [] in omega (arith, l, e)

    parts_cost : (c : Core) → own q (out-Core c).number + times q (joined (map numbers (out-Core c).parts)) ≤ times q (numbers c)
    parts_cost c =
        let e : times q (numbers c) ≡ own q (out-Core c).number + (times q (kind_numbers (out-Core c).kind)
        + times q (joined (map numbers (out-Core c).parts))) = numbers_are c in omega (arith, e)

    behind_in : (c : Core) (b : Bool) (ps : List Core) → own q (out-Core c).number + times q (joined (map numbers ps)) ≤ times q (numbers c)
        → PartIn q (times q (numbers c)) (behind_part c (only b ps))
    behind_in c true [] l = tree_in q targets c
    behind_in c true (x ∷ []) l = part_more (passed_over (out-Core c) (part x)) (one_cost c x l) (passed_in (out-Core c) (whole x))
    behind_in c true (x ∷ y ∷ ps) l = tree_in q targets c
    behind_in c false ps l = tree_in q targets c

    bare_in : (c : Core) → PartIn q (times q (numbers c)) (bare_part c)
    bare_in c = behind_in c (comes_to_written (out-Core c).kind) (out-Core c).parts (parts_cost c)

    abbrev bare : Core → Costed q
    bare c = record { part = bare_part c; cost = times q (numbers c); within = bare_in c }

    result_in : (c : Core) (b : Bool) (ps : List Core) → own q (out-Core c).number + times q (joined (map numbers ps)) ≤ times q (numbers c)
        → PartIn q (times q (numbers c)) (result_part c (only b ps))
    result_in c true [] l = tree_in q targets c
    result_in c true (x ∷ []) l = part_more (cast_over (out-Core c) (bare_part x)) (one_cost c x l) (over_in (out-Core c) (bare x))
    result_in c true (x ∷ y ∷ ps) l = tree_in q targets c
    result_in c false ps l = tree_in q targets c

    body_in : (declared : Bool) (c : Core) → PartIn q (times q (numbers c)) (body_part declared c)
    body_in true c = tree_in q targets c
    body_in false c = result_in c (comes_to_result (out-Core c).kind) (out-Core c).parts (parts_cost c)

    -- ---- clauses

    clause_in : (place : Place) (k n : ℕ) (around : Around) (ts : List Typ) (once : List WrittenNumber) (aim : Aim)
        (arm : Arm) (b : ℕ) (body : Part)
        → PartIn q b body → In q (arming q k n + b) (clause_walk place (Gives.Arm k n) around ts once aim arm body)
    clause_in place k n around ts once aim arm b body h =
        within_scoped (weigh q) _
        (in_first q (parameters_opened (looks arm) around.numbers ts) _ (opened_light (looks arm) around.numbers ts) (λ is.
        in_first q (exponents_owed around once) _ (Matched.exponents_kept (Light q) (lights q) around once) (λ t.
        in_both q (clause_names place (Gives.Arm k n) around arm is) (λ found. body.walk around found aim)
        (in_first q (arm_match place arm around in_clause is) (names_given (Gives.Arm k n) is)
        (Matched.arm_kept (Light q) (lights q) around place arm in_clause is) (λ found. names_given_in q k n is found)) (λ found. h.0 around found aim))))

    inside_in : (con : Con) (place : Place) (k n : ℕ) (around : Around) (ts : List Typ) (aim : Aim) (declared : Bool)
        (arm : Arm) (c : Core)
        → In q (arming q k n + times q (numbers c)) (clause_inside con place (Gives.Arm k n) around ts aim declared arm c)
    inside_in con place k n around ts aim declared arm c =
        in_first q (constrained con) _ (constrained_light con) (λ t.
        in_first q (beforehand (arm_read around ts (arm_of declared arm))) _
        (beforehand_in (arm_read around ts (arm_of declared arm)) (arm_light around ts (arm_of declared arm))) (λ x.
        clause_in place k n around ts [] aim (arm_of declared arm) (times q (numbers c)) (body_part declared c) (body_in declared c)))

    read_in : (con : Con) (place : Place) (k n : ℕ) (around : Around) (ts : List Typ) (aim : Aim) (declared : Bool)
        (arm : Arm) (c : Core)
        → In q (arming q k n + times q (numbers c)) (clause_read con place (Gives.Arm k n) around ts aim declared arm c)
    read_in con place k n around ts aim declared arm c =
        alone_in (found_in (node_of around.numbers (sized_body declared c))) (clause_inside con place (Gives.Arm k n) around ts aim declared arm c)
        (inside_in con place k n around ts aim declared arm c)

    arms_in : (con : Con) (place : Place) (k : ℕ) (around : Around) (ts : List Typ) (aim : Aim) (declared : Bool)
        (arms : List Arm) (cs : List Core)
        → In q (last_arms q k (length arms) + times q (joined (map numbers cs))) (arms_read con place k around ts aim declared arms cs)
    arms_in con place k around ts aim declared [] cs = in_give q tt
    arms_in con place k around ts aim declared (arm ∷ arms) [] = in_give q tt
    arms_in con place k around ts aim declared (arm ∷ arms) (c ∷ cs) =
        let n = length arms in
        let l : arming q k n + last_arms q k n ≤ last_arms q k (suc n) = arms_next q k n in
        let e : times q (numbers c ++ joined (map numbers cs)) ≡ times q (numbers c) + times q (joined (map numbers cs)) =
        times_both q (numbers c) (joined (map numbers cs)) in
        in_more q (arms_read con place k around ts aim declared (arm ∷ arms) (c ∷ cs)) (omega (arith, l, e))
        (in_both q (clause_read con place (Gives.Arm k n) around ts aim declared arm c)
        (λ t. arms_read con place k around ts aim declared arms cs) (read_in con place k n around ts aim declared arm c)
        (λ t. arms_in con place k around ts aim declared arms cs))

    arms_own : (k n : ℕ) → last_arms q k n ≤ own q k
    arms_own k n =
        let l : making q k + (giving q k + armed q k) ≤ own q k = all_own q k in
        let m : last_arms q k n ≤ armed q k = arms_all q k n in omega (arith, l, m)

    clauses_in : (con : Con) (around : Around) (ts : List Typ) (aim : Aim) (declared : Bool) (c : Core)
        → In q (times q (numbers c)) (clauses_read con around ts aim declared c)
    clauses_in con around ts aim declared c =
        let d : Core-F Core = out-Core c in
        let l : own q d.number + times q (joined (map numbers d.parts)) ≤ times q (numbers c) = parts_cost c in
        let m : last_arms q d.number (length (kind_arms d.kind)) ≤ own q d.number = arms_own d.number (length (kind_arms d.kind)) in
        in_more q (arms_read con d.place d.number around ts aim declared (kind_arms d.kind) d.parts) (omega (arith, l, m))
        (arms_in con d.place d.number around ts aim declared (kind_arms d.kind) d.parts)

    -- ---- definitions

    last_in : (con : Con) (place : Place) (k : ℕ) (r : Reading) → In q (own q k) (last_read con place k r)
    last_in con place k r =
        alone_in [] (last_inside con place k r)
        (in_first q (constrained con) (λ t. bind (result_read place r) (λ x. last_made k r)) (constrained_light con) (λ t.
        in_first q (result_read place r) (λ x. last_made k r) ((lights q).sizes place (Makes.ByType r)) (λ x.
        in_first q (opened r) (last_of k r) (Opened.opened_kept (Light q) (lights q) r) (λ i.
        in_more q (last_of k r i) (node_own q k)
        (in_both q (node_made k (i ∷ []) (Makes.ByIndices i)) (λ t. numbers_noted k i) (made_in q k (i ∷ []) (Makes.ByIndices i)) (λ t. noted_in q k i))))))

    pub function_in : (around : Around) (f : Function) → In q (times q (numbers f.body) + own q f.last) (function_read around f)
    function_in around f =
        in_first q (own_indices f.variables) (declared_read around f) (all_own_light f.variables) (λ is.
        in_both q (function_arms around f is) (λ t. last_read f.constraint f.place f.last (reading_under f.result is))
        (clauses_in f.constraint (inside_function around f is) f.parameters (aimed Aims.Due (reading_under f.result is)) f.is_declared
        f.body)
        (λ t. last_in f.constraint f.place f.last (reading_under f.result is)))

    pub measure_in : (around : Around) (f : Function) (measure : Core) → In q (times q (numbers measure)) (measure_read around f measure)
    measure_in around f measure =
        in_first q (own_indices f.variables) (measured_read around f measure) (all_own_light f.variables) (λ is.
        clauses_in f.constraint (inside_function around f is) f.parameters (Aims.Due natural_type) true measure)

    way_in : (place : Place) (around : Around) (m : Direction) (n : ℕ) (arm : Arm) (c : Core)
        → In q (arming q (out-Core m.body).number n + times q (numbers c)) (way_read place around m n arm c)
    way_in place around m n arm c =
        read_in (C.Truth true) place (out-Core m.body).number n around (m.parameter ∷ []) (aimed Aims.Due (R.Of m.result [] [])) true arm c

    -- what the arms of a direction give, and their bodies
    abbrev direction_cost : Direction → List Arm → List Core → ℕ
    direction_cost m arms cs = last_arms q (out-Core m.body).number (length arms) + times q (joined (map numbers cs))

    direction_fits : (m : Direction) → direction_cost m (kind_arms (out-Core m.body).kind) (out-Core m.body).parts ≤ times q (numbers m.body)
    direction_fits m =
        let l : own q (out-Core m.body).number + times q (joined (map numbers (out-Core m.body).parts)) ≤ times q (numbers m.body) = parts_cost m.body in
        let k : last_arms q (out-Core m.body).number (length (kind_arms (out-Core m.body).kind)) ≤ own q (out-Core m.body).number =
        arms_own (out-Core m.body).number (length (kind_arms (out-Core m.body).kind)) in omega (arith, k, l)

    both_in : (place : Place) (around : Around) (m n : Direction) (arms : List Arm) (cs : List Core) (backs : List Arm) (ds : List Core)
        → In q (direction_cost m arms cs + direction_cost n backs ds) (both_read place around m n arms cs backs ds)
    both_in place around m n [] cs backs ds = in_give q tt
    both_in place around m n (arm ∷ arms) [] backs ds = in_give q tt
    both_in place around m n (arm ∷ arms) (c ∷ cs) [] ds = in_give q tt
    both_in place around m n (arm ∷ arms) (c ∷ cs) (back ∷ backs) [] = in_give q tt
    both_in place around m n (arm ∷ arms) (c ∷ cs) (back ∷ backs) (d ∷ ds) =
        let e : times q (numbers c ++ joined (map numbers cs)) ≡ times q (numbers c) + times q (joined (map numbers cs)) =
        times_both q (numbers c) (joined (map numbers cs)) in
        let f : times q (numbers d ++ joined (map numbers ds)) ≡ times q (numbers d) + times q (joined (map numbers ds)) =
        times_both q (numbers d) (joined (map numbers ds)) in
        let i = (out-Core m.body).number in
        let j = (out-Core n.body).number in
        let g : arming q i (length arms) + last_arms q i (length arms) ≤ last_arms q i (suc (length arms)) = arms_next q i (length arms) in
        let h : arming q j (length backs) + last_arms q j (length backs) ≤ last_arms q j (suc (length backs)) = arms_next q j (length backs) in
        in_more q (both_read place around m n (arm ∷ arms) (c ∷ cs) (back ∷ backs) (d ∷ ds)) (omega (arith, e, f, g, h))
        (in_both q (way_read place around m (length arms) arm c)
        (λ t. bind (way_read place around n (length backs) back d) (λ u. both_read place around m n arms cs backs ds))
        (way_in place around m (length arms) arm c) (λ t.
        in_both q (way_read place around n (length backs) back d) (λ u. both_read place around m n arms cs backs ds)
        (way_in place around n (length backs) back d) (λ u. both_in place around m n arms cs backs ds)))

    pub mapping_in : (around : Around) (m n : Direction) → In q (times q (numbers m.body) + times q (numbers n.body)) (mapping_read around m n)
    mapping_in around m n =
        let k : direction_cost m (kind_arms (out-Core m.body).kind) (out-Core m.body).parts ≤ times q (numbers m.body) = direction_fits m in
        let l : direction_cost n (kind_arms (out-Core n.body).kind) (out-Core n.body).parts ≤ times q (numbers n.body) = direction_fits n in
        in_more q
        (both_read m.place around m n (kind_arms (out-Core m.body).kind) (out-Core m.body).parts (kind_arms (out-Core n.body).kind) (out-Core n.body).parts)
        (omega (arith, k, l))
        (both_in m.place around m n (kind_arms (out-Core m.body).kind) (out-Core m.body).parts (kind_arms (out-Core n.body).kind) (out-Core n.body).parts)

    initial_in : (around : Around) (place : Place) (o : Option Register) (a : Costed q) → In q a.cost (initial_of around place o a.part)
    initial_in around place None a = few q (initial_of around place None a.part) (wrong_unit place)
      where
        wrong_unit : (place : Place) → In q 0 (initial_of around place None a.part)
        wrong_unit place = (lights q).owes place (Some (C.Truth false) ∷ [])
    initial_in around place (Some r) a =
        in_last q (a.part.walk (apart around) [] (initial_aim r)) (λ i. give tt) (a.within.0 (apart around) [] (initial_aim r)) (λ i. in_give q tt)

    once_in : (around : Around) (place : Place) (kind : OpeningKind) (a : Costed q) → In q a.cost (opening_walk around place kind a.part)
    once_in around place (O.Let arm) a =
        in_last q (let_walk around place arm a.part) (λ found. give tt) (names_in q place arm a (apart around) []) (λ found. in_give q tt)
    once_in around place (O.Register r) a = initial_in around place (slice_get around.registers r) a

    pub opening_in : (around : Around) (o : Opening) → In q (times q (numbers o.value)) (opening_read around o)
    opening_in around o =
        alone_in (opening_behind around o) (opening_walk around o.place o.kind (part o.value)) (once_in around o.place o.kind (whole o.value))
