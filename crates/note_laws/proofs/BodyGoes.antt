-- What is read of a definition goes through the mappings of its patterns and bodies.
use Rattle.std.specs.Prelude.{ℕ, Bool, true, List, [], ◌∷◌, length, slice_get, Option, Some, None}
use Rattle.std.proofs.Common.{◌≡◌}
use Rattle.sail_base.specs.declared.place.Place.{Place}
use Rattle.sail_types.specs.declared.numbers.Con.{Con}
use Rattle.sail_types.specs.declared.numbers.Con.TheVariants as C
use Rattle.sail_types.specs.declared.numbers.Index.{Index}
use Rattle.sail_types.specs.declared.table.Parameter.{Parameter}
use Rattle.sail_types.specs.declared.types.Typ.{Typ}
use Rattle.model_state.specs.declared.state.Register.{Register}
use Rattle.sail_core.specs.declared.model.Direction.{Direction}
use Rattle.sail_core.specs.declared.model.Function.{Function}
use Rattle.sail_core.specs.declared.model.Opening.{Opening}
use Rattle.sail_core.specs.declared.model.OpeningKind.{OpeningKind}
use Rattle.sail_core.specs.declared.model.OpeningKind.TheVariants as O
use Rattle.sail_core.specs.declared.patterns.Arm.{Arm}
use Rattle.sail_core.specs.declared.patterns.Arm.TheVariants as A
use Rattle.sail_core.specs.declared.patterns.Pattern.{Pattern}
use Rattle.sail_core.specs.declared.tree.Core.{Core, out-Core}
use Rattle.sail_core.specs.declared.tree.Giver.{Giver}
use Rattle.sail_core.specs.declared.tree.Giver.TheVariants as By
use Rattle.sail_core.specs.declared.tree.Kind.{Kind}
use Rattle.sail_core.specs.declared.tree.Kind.TheVariants as K
use Rattle.value_indices.specs.Steps.{Note, Walk, call_note, given_note, goal_note, made_note, name_note, size_note, way_note}
use Rattle.value_indices.specs.declared.indices.Indices.{Indices}
use Rattle.value_indices.specs.declared.indices.Reading.{Reading}
use Rattle.value_indices.specs.declared.indices.Reading.TheVariants as R
use Rattle.value_indices.specs.declared.notes.Fact.{Fact}
use Rattle.value_indices.specs.declared.notes.Made.TheVariants as Makes
use Rattle.pattern_leaves.specs.Settings.{Around}
use Rattle.pattern_notes.specs.Patterns.{look, nested}
use Rattle.call_arguments.specs.Aims.{aimed}
use Rattle.call_arguments.specs.declared.aims.Aim.{Aim}
use Rattle.call_arguments.specs.declared.aims.Aim.TheVariants as Aims
use Rattle.expression_steps.specs.Parts.{Part}
use Rattle.expression_steps.specs.Expressions.{part}
use Rattle.expression_steps.specs.Statements.{natural_type}
use Rattle.function_notes.specs.Functions.{arm_of, body_part, direction_giver, inside_function, last_of, own_index, own_indices, reading_under}
use Rattle.constraint_gen.specs.Models.{apart, initial_aim, initial_of, opening_walk}
use Rattle.size_notes.specs.declared.written.WrittenSize.{WrittenSize}
use Rattle.size_notes.specs.declared.behind.Behind.{Behind}
use Rattle.size_notes.specs.Behind.{arm_sizes, notes_with, sizes_behind, sizes_noted}
use Rattle.size_notes.specs.Bodies.{alone, arm_read, arms_read, beforehand, both_read, clause_read, clauses_read, function_read, kind_arms, last_read}
use Rattle.size_notes.specs.Bodies.{mapping_read, measure_read, opening_behind, opening_read, parameter_read, parameters_read, sizes_read, way_read}
use Rattle.note_laws.specs.Ways.{Told, kind_reached}
use Rattle.note_laws.proofs.Goes.{Goes, IsTabled, Every, PartGoes, PatternGoes, ArmGoes, AllGo, all_join, bind_goes, each_goes, fresh_named_goes, give_goes}
use Rattle.note_laws.proofs.Goes.{note_goes, wrong_goes}
use Rattle.note_laws.proofs.BareGoes.{CoreGoes, arm_of_goes, body_part_goes, core_goes}
use Rattle.note_laws.proofs.ExpressionGoes.{arms_of_reached, part_goes}
use Rattle.note_laws.proofs.FunctionGoes.{clause_walk_goes, constrained_goes}
use Rattle.note_laws.proofs.NodeGoes.{node_made_goes, numbers_noted_goes}
use Rattle.note_laws.proofs.OpeningGoes.{opened_goes, opening_goes}
use Rattle.note_laws.proofs.StatementGoes.{let_names_goes}

module _ (told : Told) where
  pub parameter_read_goes : (is : List Index) (p : Pattern) → PatternGoes told p → (t : Typ) → Goes told (parameter_read is p t)
  parameter_read_goes is p p_go t =
      bind_goes told _ _ (note_goes told _ (λ facts. tt)) (λ x. opening_goes told (reading_under t is) true (look p).naming)

  pub parameters_read_goes : (is : List Index) (ps : List Pattern) → Every (PatternGoes told) ps → (ts : List Typ) → Goes told (parameters_read is ps ts)
  parameters_read_goes is (p ∷ ps) go1 (t ∷ ts) = bind_goes told _ _ (parameter_read_goes is p go1.0 t) (λ i. parameters_read_goes is ps go1.1 ts)
  parameters_read_goes is ps ps_go ts = give_goes told _

  pub sizes_read_goes : (ss : List WrittenSize) → Goes told (sizes_read ss)
  sizes_read_goes [] = give_goes told _
  sizes_read_goes (s ∷ ss) = bind_goes told _ _ (note_goes told _ (λ facts. tt)) (λ x. sizes_read_goes ss)

  nested_goes : (arm : Arm) → ArmGoes told arm → Every (PatternGoes told) (nested arm)
  nested_goes (A.Nested ps) h = h
  nested_goes (A.Flat count steps) h = tt

  pub arm_read_goes : (around : Around) (ts : List Typ) (arm : Arm) → ArmGoes told arm → Goes told (arm_read around ts arm)
  arm_read_goes around ts arm arm_goes =
      bind_goes told _ _ (parameters_read_goes around.numbers (nested arm) (nested_goes arm arm_goes) ts)
      (λ x. sizes_read_goes (arm_sizes around.numbers arm))

  -- ---- clauses, each read by itself

  sizes_go : (facts : List Fact) (ss : List WrittenSize) → AllGo told (sizes_noted facts ss)
  sizes_go facts [] = tt
  sizes_go facts (s ∷ ss) = (tt, sizes_go facts ss)

  with_go : (bs : List Behind) (ns : List Note) → AllGo told ns → AllGo told (notes_with bs ns)
  with_go bs [] h = tt
  with_go bs (made_note facts k operands made ∷ ns) h =
      (tt, all_join told (sizes_noted facts (sizes_behind k bs)) (notes_with bs ns) (sizes_go facts (sizes_behind k bs)) (with_go bs ns h.1))
  with_go bs (goal_note facts place c ∷ ns) h = (tt, with_go bs ns h.1)
  with_go bs (size_note facts place made ∷ ns) h = (tt, with_go bs ns h.1)
  with_go bs (call_note facts place k operands callee js qs ∷ ns) h = (h.0, with_go bs ns h.1)
  with_go bs (way_note facts d ∷ ns) h = (h.0, with_go bs ns h.1)
  with_go bs (given_note facts k i ∷ ns) h = (tt, with_go bs ns h.1)
  with_go bs (name_note v name ∷ ns) h = (tt, with_go bs ns h.1)

  alone_goes : {A : Type 0} (bs : List Behind) (walk : Walk A) → Goes told walk → Goes told (alone bs walk)
  unfolding alone
  alone_goes bs walk h = record { notes = λ facts n. with_go bs (walk [] n).notes (h.notes [] n); value = λ facts n. tt }

  beforehand_goes : (walk : Walk (Unit {0})) → Goes told walk → Goes told (beforehand walk)
  unfolding beforehand
  beforehand_goes walk h = record { notes = h.notes; value = λ facts n. tt }

  clause_read_goes : (con : Con) (place : Place) (g : Giver) (around : Around) (tabled : IsTabled told around) (ts : List Typ)
      (aim : Aim) (declared : Bool) (arm : Arm) → ArmGoes told arm → (c : Core) → CoreGoes told c
      → Goes told (clause_read con place g around ts aim declared arm c)
  clause_read_goes con place g around tabled ts aim declared arm arm_go c h =
      let behind = arm_of_goes told declared arm arm_go in
      alone_goes _ _ (bind_goes told _ _ (constrained_goes told con) (λ t.
      bind_goes told _ _ (beforehand_goes _ (arm_read_goes around ts (arm_of declared arm) behind)) (λ x.
      clause_walk_goes told place g around tabled ts [] aim (arm_of declared arm) behind (body_part declared c) (body_part_goes told declared c h))))

  kind_arms_go : (kind : Kind) → kind_reached told.reached kind ≡ true → Every (ArmGoes told) (kind_arms kind)
  kind_arms_go (K.Clauses arms) h = arms_of_reached told arms h
  kind_arms_go kind h = tt

  -- the clauses of a body and what they give
  clauses_go : (core : Core) → CoreGoes told core → Every (ArmGoes told) (kind_arms (out-Core core).kind) × Every (CoreGoes told) (out-Core core).parts
  clauses_go core h =
      let k = core_goes told core h in
      (kind_arms_go (out-Core core).kind k.0, k.1)

  arms_read_goes : (con : Con) (place : Place) (k : ℕ) (around : Around) (tabled : IsTabled told around) (ts : List Typ) (aim : Aim)
      (declared : Bool) (arms : List Arm) → Every (ArmGoes told) arms → (cs : List Core) → Every (CoreGoes told) cs
      → Goes told (arms_read con place k around ts aim declared arms cs)
  arms_read_goes con place k around tabled ts aim declared (arm ∷ arms) a (c ∷ cs) h =
      bind_goes told _ _ (clause_read_goes con place (By.Arm k (length arms)) around tabled ts aim declared arm a.0 c h.0)
      (λ t. arms_read_goes con place k around tabled ts aim declared arms a.1 cs h.1)
  arms_read_goes con place k around tabled ts aim declared arms a cs h = give_goes told _

  clauses_read_goes : (con : Con) (around : Around) (tabled : IsTabled told around) (ts : List Typ) (aim : Aim) (declared : Bool)
      (core : Core) → CoreGoes told core → Goes told (clauses_read con around ts aim declared core)
  clauses_read_goes con around tabled ts aim declared core h =
      let k = clauses_go core h in
      arms_read_goes con (out-Core core).place (out-Core core).number around tabled ts aim declared _ k.0 _ k.1

  -- ---- functions and their measures

  own_index_goes : (p : Parameter) → Goes told (own_index p)
  own_index_goes p = bind_goes told _ _ (fresh_named_goes told p.name) (λ v. give_goes told _)

  own_indices_goes : (ps : List Parameter) → Goes told (own_indices ps)
  own_indices_goes ps = each_goes told own_index own_index_goes ps

  last_of_goes : (k : ℕ) (r : Reading) (i : Indices) → Goes told (last_of k r i)
  last_of_goes k r i = bind_goes told _ _ (node_made_goes told k (i ∷ []) (Makes.ByIndices i)) (λ t. numbers_noted_goes told k i)

  last_read_goes : (con : Con) (place : Place) (k : ℕ) (r : Reading) → Goes told (last_read con place k r)
  last_read_goes con place k r =
      alone_goes [] _ (bind_goes told _ _ (constrained_goes told con) (λ t.
      bind_goes told _ _ (note_goes told _ (λ facts. tt)) (λ x. bind_goes told _ _ (opened_goes told r) (last_of_goes k r))))

  pub function_read_goes : (around : Around) (tabled : IsTabled told around) (f : Function) → CoreGoes told f.body → Goes told (function_read around f)
  function_read_goes around tabled f h =
      bind_goes told _ _ (own_indices_goes f.variables) (λ is.
      bind_goes told _ _
      (clauses_read_goes f.constraint (inside_function around f is) tabled f.parameters (aimed Aims.Due (reading_under f.result is))
      f.is_declared f.body h)
      (λ t. last_read_goes f.constraint f.place f.last (reading_under f.result is)))

  pub measure_read_goes : (around : Around) (tabled : IsTabled told around) (f : Function) (measure : Core) → CoreGoes told measure
      → Goes told (measure_read around f measure)
  measure_read_goes around tabled f measure h =
      bind_goes told _ _ (own_indices_goes f.variables)
      (λ is. clauses_read_goes f.constraint (inside_function around f is) tabled f.parameters (Aims.Due natural_type) true measure h)

  -- ---- mappings

  way_read_goes : (place : Place) (around : Around) (tabled : IsTabled told around) (m : Direction) (behind : ℕ) (arm : Arm) → ArmGoes told arm
      → (c : Core) → CoreGoes told c → Goes told (way_read place around m behind arm c)
  way_read_goes place around tabled m behind arm arm_go c h =
      clause_read_goes (C.Truth true) place (direction_giver m behind) around tabled (m.parameter ∷ [])
      (aimed Aims.Due (R.Of m.result [] [])) true arm arm_go c h

  both_read_goes : (place : Place) (around : Around) (tabled : IsTabled told around) (m n : Direction) (arms : List Arm) → Every (ArmGoes told) arms
      → (cs : List Core) → Every (CoreGoes told) cs → (backs : List Arm) → Every (ArmGoes told) backs → (ds : List Core) → Every (CoreGoes told) ds
      → Goes told (both_read place around m n arms cs backs ds)
  both_read_goes place around tabled m n (arm ∷ arms) a (c ∷ cs) b (back ∷ backs) d (e ∷ ds) h =
      bind_goes told _ _ (way_read_goes place around tabled m (length arms) arm a.0 c b.0) (λ t.
      bind_goes told _ _ (way_read_goes place around tabled n (length backs) back d.0 e h.0)
      (λ u. both_read_goes place around tabled m n arms a.1 cs b.1 backs d.1 ds h.1))
  both_read_goes place around tabled m n arms a cs b backs d ds h = give_goes told _

  pub mapping_read_goes : (around : Around) (tabled : IsTabled told around) (m n : Direction) → CoreGoes told m.body → CoreGoes told n.body
      → Goes told (mapping_read around m n)
  mapping_read_goes around tabled m n h k =
      let a = clauses_go m.body h in
      let b = clauses_go n.body k in
      both_read_goes m.place around tabled m n _ a.0 _ a.1 _ b.0 _ b.1

  -- ---- top-level lets and initial values

  abbrev pub OpeningGoes : OpeningKind → Type 0
  OpeningGoes (O.Let arm) = ArmGoes told arm
  OpeningGoes (O.Register r) = Unit {0}

  initial_goes : (around : Around) (tabled : IsTabled told (apart around)) (place : Place) (r : Option Register) (a : Part) → PartGoes told a
      → Goes told (initial_of around place r a)
  initial_goes around tabled place None a a_go = wrong_goes told place
  initial_goes around tabled place (Some r) a a_go =
      bind_goes told _ _ (a_go.walk (apart around) tabled [] (initial_aim r)) (λ i. give_goes told _)

  opening_walk_goes : (around : Around) (tabled : IsTabled told (apart around)) (place : Place) (kind : OpeningKind) → OpeningGoes kind → (a : Part)
      → PartGoes told a → Goes told (opening_walk around place kind a)
  opening_walk_goes around tabled place (O.Let arm) h a a_go =
      bind_goes told _ _ (let_names_goes told place arm h a a_go (apart around) tabled []) (λ found. give_goes told _)
  opening_walk_goes around tabled place (O.Register r) h a a_go = initial_goes around tabled place (slice_get around.registers r) a a_go

  pub opening_read_goes : (around : Around) (tabled : IsTabled told (apart around)) (o : Opening) → OpeningGoes o.kind → CoreGoes told o.value
      → Goes told (opening_read around o)
  opening_read_goes around tabled o h k =
      alone_goes (opening_behind around o) _ (opening_walk_goes around tabled o.place o.kind h (part o.value) (part_goes told o.value k))
