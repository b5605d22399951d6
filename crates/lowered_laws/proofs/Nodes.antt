-- The code of a node does what the node means, for the kinds that are lowered here.
use Rattle.std.proofs.Common.{◌≡◌, ◌∙◌, ℕ, ℤ, Option, Some, None, Bool, true, false, List, [], ◌∷◌, map, refl, sym, ap, subst}
use Rattle.std.specs.Prelude.{◌&&◌, is_some, slice_get, suc, length}
use Rattle.std.proofs.lemmas.Bool.{and_parts}
use Rattle.row_types.specs.Calls.{has_state}
use Rattle.sail_base.specs.declared.place.Place.{Place as TextPlace}
use Rattle.sail_types.specs.declared.numbers.Num.{Num}
use Rattle.sail_types.specs.declared.numbers.Con.{Con}
use Rattle.sail_types.specs.declared.types.Typ.TheVariants as T
use Rattle.sail_types.specs.declared.values.Value.{Value}
use Rattle.sail_types.specs.declared.values.Value.TheVariants as V
use Rattle.size_values.specs.declared.sized.Sized.{Sized}
use Rattle.jib.specs.Values as J
use Rattle.jib.specs.declared.code.Literal.TheVariants as L
use Rattle.sail_core.specs.declared.patterns.Literal.{Literal as CoreLiteral}
use Rattle.sail_core.specs.declared.patterns.Literal.TheVariants as C
use Rattle.sail_core.specs.declared.patterns.Arm.{Arm}
use Rattle.sail_core.specs.declared.targets.Way.{Way}
use Rattle.sail_core.specs.declared.targets.Way.TheVariants as Y
use Rattle.sail_core.specs.declared.targets.Suffix.{Suffix}
use Rattle.sail_core.specs.declared.tree.Callee.TheVariants as F
use Rattle.sail_core.specs.declared.tree.Giver.TheVariants as Gives
use Rattle.sail_core.specs.declared.tree.Statement.{Statement}
use Rattle.sail_core.specs.declared.tree.Statement.TheVariants as S
use Rattle.sail_core.specs.declared.tree.Kind.{Kind}
use Rattle.sail_core.specs.declared.tree.Kind.TheVariants as K
use Rattle.sail_core.specs.declared.tree.Core.{Core, Core-F, roll-Core, fold-roll-Core, map-Core, ind-Core}
use Rattle.sail_core.specs.Run.{Run, gives, held_in, if_so, in_turn, local, needs, row_run, stops, within, ◌then◌}
use Rattle.sail_core.specs.Targets.{called, read_register, variable_read}
use Rattle.sail_types.specs.declared.rows.Row.{Row}
use Rattle.model_state.specs.declared.cause.Cause.{Cause}
use Rattle.model_state.specs.declared.cause.Cause.TheVariants.{Exit, Assertion, MatchFailure}
use Rattle.sail_core.specs.Numbers.{known, known_truth}
use Rattle.sail_core.specs.Values.{int_typ, literal_typ, literal_value, cons_of, list_of, payload_of, struct_of, tuple_of, vector_of, with_of}
use Rattle.sail_core.specs.Making.{World, made, nothing, truth}
use Rattle.sail_core.specs.Meaning.{block, built, first_of, kind_meaning, let_in, meaning, tried}
use Rattle.checked_meaning.specs.Fits.{has_sizes}
use Rattle.checked_meaning.specs.Items.{Item, item, fixed_typ, vals}
use Rattle.lowered_pieces.specs.Tables.{leads_to, cases_among}
use Rattle.lowered_pieces.specs.Forms.{Callees, End, Piece, constant_piece, ends_of, has_ends, unit_piece, if_piece, inside_piece, one_end, variable_piece}
use Rattle.lowered_pieces.specs.Nodes.{is_empty}
use Rattle.lowered_pieces.specs.Writes.{is_read}
use Rattle.lowered_pieces.specs.Arms.{constant_of, arm_fits, arms_fit, match_piece, try_piece}
use Rattle.lowered_pieces.specs.Lowering.{Node, block_piece, row_piece, number_piece, truth_piece, row_lowered, kind_piece, node, piece, pieces_of}
use Rattle.lowered_pieces.specs.Lowering.{all_lowered, applied_lowered, block_lowered, is_lowered, is_matched, kind_lowered, number_lowered, path_lowered}
use Rattle.lowered_pieces.specs.Lowering.{no_parts, variable_lowered, way_lowered}
use Rattle.lowered_pieces.specs.Gathered.{all_one, is_one}
use Rattle.lowered_laws.proofs.Ends.{EndsRight, RightAll, built_right, fixed_right, made_right, needs_right, tested_right, then_right, turn_right}
use Rattle.lowered_laws.specs.Simulation.{AtWork, kit, reading, Good, Around, CallsOk}
use Rattle.lowered_laws.proofs.Follows.{no}
use Rattle.lowered_laws.proofs.Inside.{inside_good}
use Rattle.lowered_laws.proofs.Had.{truth_sits, unit_sits}
use Rattle.lowered_laws.proofs.States.{same_good}
use Rattle.lowered_laws.proofs.Ended.{constant_good, cast_good, throw_good}
use Rattle.lowered_laws.proofs.Names.{local_good, register_good, top_level_good}
use Rattle.lowered_laws.proofs.Branches.{seq_good, return_good, stop_good, when_good, if_good}
use Rattle.lowered_laws.proofs.Truths.{assert_good, and_good, or_good}
use Rattle.lowered_laws.proofs.Paths.{GoodWay, GoodPath, path_good, with_item_good, with_slice_good, with_good}
use Rattle.lowered_laws.proofs.ClauseEnds.{clauses_right}
use Rattle.lowered_laws.proofs.Lasting.{item_right, let_right, met_right, path_right, slice_right, within_right}
use Rattle.lowered_laws.proofs.Applied.{applied_good, applied_right}
use Rattle.lowered_laws.proofs.WithFields.{with_several_good}
use Rattle.lowered_pieces.specs.Mapped.{ends_with, fixed_end}
use Rattle.lowered_laws.proofs.ArmSteps.{Sees, nowhere}
use Rattle.lowered_laws.proofs.Arms.{Fit, match_good, let_good, clauses_good}
use Rattle.lowered_laws.proofs.Tries.{try_good}
use Rattle.lowered_laws.proofs.Gathered.{state_good, state_right}
use Rattle.lowered_pieces.specs.Writes.{spot_lowered, target_spot}
use Rattle.lowered_laws.proofs.Writes.{assign_good}
use Rattle.lowered_laws.proofs.Binding.{var_good}
use Rattle.lowered_laws.proofs.Variables.{read_good}
use Rattle.lowered_laws.proofs.Meeting.{meet_good}
use Rattle.lowered_laws.proofs.Loops.{while_good}
use Rattle.lowered_laws.proofs.Repeats.{repeat_good}
use Rattle.lowered_laws.proofs.Counts.{foreach_good}
use Rattle.lowered_laws.proofs.Calls.{GoodAll, call_good}
use Rattle.lowered_laws.proofs.Constructors.{constructor_good}
use Rattle.lowered_laws.proofs.Works.{row_good, tuple_good, vector_good, list_good, struct_good, cons_good}

literal_same : (l : CoreLiteral) → J.literal_value (constant_of l) ≡ literal_value l
literal_same C.Unit = refl
literal_same (C.Integer z) = refl
literal_same (C.Truth b) = refl
literal_same (C.Bit b) = refl
literal_same (C.Bits bs) = refl
literal_same (C.String text) = refl
literal_same (C.Member e k) = refl

module _ (g : AtWork) (callees : Callees) (w : World Item) (calls : CallsOk g callees w) (around : Around g callees w) where
  abbrev me : Core → Run Item Item
  me = meaning (reading g) w

  abbrev at_node : Core → Node
  at_node = node g.table (kit g) g.number callees g.tables

  abbrev code : Core → Piece
  code = piece g.table (kit g) g.number callees g.tables

  abbrev ok : Core → Bool
  ok = is_lowered g.table (kit g) g.number callees g.tables

  -- a node does what it means, and its value has the types that are said of it
  abbrev Does : Run Item Item → Node → Type 0
  Does r n = n.ok ≡ true → Good g r n.piece × EndsRight n.piece.ends r

  Sim : Core → Type 0
  Sim c = Does (me c) (at_node c)

  abbrev Known : Type 0
  Known = (c : Core) × Sim c

  abbrev Parts : Type 0
  Parts = List Known

  abbrev cores : Parts → List Core
  cores ys = map (λ y. y.0) ys

  abbrev runs : Parts → List (Run Item Item)
  runs ys = map me (cores ys)

  abbrev nodes : Parts → List Node
  nodes ys = map at_node (cores ys)

  abbrev pieces : Parts → List Piece
  pieces ys = pieces_of (nodes ys)

  as_many : (ys : Parts) → length (runs ys) ≡ length (pieces ys)
  as_many [] = refl
  as_many (y ∷ ys) = ap suc (as_many ys)

  all_sim : (ys : Parts) → all_lowered (nodes ys) ≡ true → GoodAll g (runs ys) (pieces ys)
  unfolding Sim
  all_sim [] h = tt
  all_sim (y ∷ ys) h = let q = and_parts (ok y.0) (all_lowered (nodes ys)) h in ((y.1 q.0).0, all_sim ys q.1)

  all_right : (ys : Parts) → all_lowered (nodes ys) ≡ true → RightAll (runs ys) (pieces ys)
  unfolding Sim
  all_right [] h = tt
  all_right (y ∷ ys) h = let q = and_parts (ok y.0) (all_lowered (nodes ys)) h in ((y.1 q.0).1, all_right ys q.1)

  sees : Sees g w callees.crosses
  sees d x now there tk = calls.sees (nowhere g) d x now there tk

  arm_known : (arm : Arm) → arm_fits callees.size callees.crosses g.tables.reads arm ≡ true
      → Fit g w callees.crosses (arm_fits g.size callees.crosses g.tables.reads arm)
  arm_known arm h = (subst (λ (f : Num → Option ℤ). arm_fits f callees.crosses g.tables.reads arm ≡ true) around.sized h, around.widths, sees)

  arms_known : (arms : List Arm) → arms_fit callees.size callees.crosses g.tables.reads arms ≡ true
      → Fit g w callees.crosses (arms_fit g.size callees.crosses g.tables.reads arms)
  arms_known arms h = (subst (λ (f : Num → Option ℤ). arms_fit f callees.crosses g.tables.reads arms ≡ true) around.sized h, around.widths, sees)

  unit_good : Good g (gives (nothing (reading g))) (unit_piece (kit g))
  unit_good = constant_good g (fixed_typ g.table T.Unit) L.Unit (unit_sits g)

  block_sim : (k : ℕ) (ss : List Statement) (ys : Parts) → block_lowered callees g.tables ss (nodes ys) ≡ true
      → Good g (block (reading g) w k ss (runs ys)) (block_piece g.table (kit g) g.number callees g.tables k ss (pieces ys))
  unfolding Sim
  block_sim k [] [] h = record { run = unit_good.run }
  block_sim k [] (y ∷ []) h = (y.1 h).0
  block_sim k [] (y ∷ x ∷ ys) h = no h
  block_sim k (S.Evaluate ∷ ss) [] h = no h
  block_sim k (S.Define place arm ∷ ss) [] h = no h
  block_sim k (S.Declare name written ∷ ss) [] h = no h
  block_sim k (S.Define place arm ∷ ss) (y ∷ ys) h =
      let q =
      and_parts (arm_fits callees.size callees.crosses g.tables.reads arm) (is_matched (at_node y.0) && block_lowered callees g.tables ss (nodes ys)) h in
      let p = and_parts (is_matched (at_node y.0)) (block_lowered callees g.tables ss (nodes ys)) q.1 in
      let r = and_parts (ok y.0) (has_ends (code y.0).ends) p.0 in
      let it = y.1 r.0 in
      let_good g w callees.crosses k (length ss) place (me y.0) (code y.0) arm (block (reading g) w k ss (runs ys))
      (block_piece g.table (kit g) g.number callees g.tables k ss (pieces ys)) (arm_known arm q.0) it.0 it.1 r.1 (block_sim k ss ys p.1)
  block_sim k (S.Evaluate ∷ ss) (y ∷ ys) h =
      let q = and_parts (ok y.0) (block_lowered callees g.tables ss (nodes ys)) h in
      seq_good g (me y.0) (code y.0) (block (reading g) w k ss (runs ys)) (block_piece g.table (kit g) g.number callees g.tables k ss (pieces ys)) (y.1 q.0).0
      (block_sim k ss ys q.1)
  block_sim k (S.Declare name written ∷ ss) (y ∷ ys) h =
      let q = and_parts (ok y.0) (block_lowered callees g.tables ss (nodes ys)) h in
      var_good g name (me y.0) (code y.0) (block (reading g) w k ss (runs ys)) (block_piece g.table (kit g) g.number callees g.tables k ss (pieces ys))
      (y.1 q.0).0 (block_sim k ss ys q.1)

  -- the types of the value of a block's last part are those of the block
  bound_right : (k j : ℕ) (place : TextPlace) (ma : Run Item Item) (arm : Arm) (mb : Run Item Item) (es : List End) → EndsRight es mb
      → EndsRight es (ma then λ x. let_in (reading g) w (Gives.Arm k j) place arm x mb)
  bound_right k j place ma arm mb es h =
      then_right es ma (λ x. let_in (reading g) w (Gives.Arm k j) place arm x mb) (λ x. let_right g w (Gives.Arm k j) place arm x es mb h)

  var_right : (name : List ℕ) (ma mb : Run Item Item) (es : List End) → EndsRight es mb → EndsRight es (ma then λ x. within (local name x ∷ []) mb)
  var_right name ma mb es h = then_right es ma (λ x. within (local name x ∷ []) mb) (λ x. within_right es (local name x ∷ []) mb h)

  abbrev block_in : ℕ → List Statement → Parts → Run Item Item
  block_in k ss ys = block (reading g) w k ss (runs ys)

  abbrev ends_in : ℕ → List Statement → Parts → List End
  ends_in k ss ys = (block_piece g.table (kit g) g.number callees g.tables k ss (pieces ys)).ends

  block_said : (k : ℕ) (ss : List Statement) (ys : Parts) → block_lowered callees g.tables ss (nodes ys) ≡ true → EndsRight (ends_in k ss ys) (block_in k ss ys)
  unfolding Sim
  block_said k [] [] h = λ f. no f
  block_said k [] (y ∷ []) h = (y.1 h).1
  block_said k [] (y ∷ x ∷ ys) h = no h
  block_said k (S.Evaluate ∷ ss) [] h = no h
  block_said k (S.Define place arm ∷ ss) [] h = no h
  block_said k (S.Declare name written ∷ ss) [] h = no h
  block_said k (S.Define place arm ∷ ss) (y ∷ ys) h =
      let q =
      and_parts (arm_fits callees.size callees.crosses g.tables.reads arm) (is_matched (at_node y.0) && block_lowered callees g.tables ss (nodes ys)) h in
      let p = and_parts (is_matched (at_node y.0)) (block_lowered callees g.tables ss (nodes ys)) q.1 in
      bound_right k (length ss) place (me y.0) arm (block_in k ss ys) (ends_in k ss ys) (block_said k ss ys p.1)
  block_said k (S.Evaluate ∷ ss) (y ∷ ys) h =
      let q = and_parts (ok y.0) (block_lowered callees g.tables ss (nodes ys)) h in
      then_right (ends_in k ss ys) (me y.0) (λ x. block_in k ss ys) (λ x. block_said k ss ys q.1)
  block_said k (S.Declare name written ∷ ss) (y ∷ ys) h =
      let q = and_parts (ok y.0) (block_lowered callees g.tables ss (nodes ys)) h in
      var_right name (me y.0) (block_in k ss ys) (ends_in k ss ys) (block_said k ss ys q.1)

  way_sim : (w : Way) (ss : List Suffix) (ys : Parts)
      → ((zs : Parts) → path_lowered ss (nodes zs) ≡ true → GoodPath g ss (runs zs) (pieces zs)) → way_lowered w (nodes ys) (path_lowered ss) ≡ true
      → GoodWay g w (runs ys) (pieces ys) (GoodPath g ss)
  unfolding Sim
  way_sim (Y.Field struct i) ss ys next h = next ys h
  way_sim Y.Item ss [] next h = no h
  way_sim Y.Item ss (y ∷ ys) next h = let q = and_parts (ok y.0) (path_lowered ss (nodes ys)) h in ((y.1 q.0).0, next ys q.1)
  way_sim Y.Slice ss [] next h = no h
  way_sim Y.Slice ss (y ∷ []) next h = no h
  way_sim Y.Slice ss (y ∷ z ∷ ys) next h =
      let q = and_parts (ok y.0) (ok z.0 && path_lowered ss (nodes ys)) h in
      let p = and_parts (ok z.0) (path_lowered ss (nodes ys)) q.1 in
      ((y.1 q.0).0, (z.1 p.0).0, next ys p.1)

  path_sim : (ss : List Suffix) (ys : Parts) → path_lowered ss (nodes ys) ≡ true → GoodPath g ss (runs ys) (pieces ys)
  path_sim [] [] h = tt
  path_sim [] (y ∷ ys) h = no h
  path_sim (s ∷ ss) ys h = way_sim s.way ss ys (path_sim ss) h

  abbrev GoodSaid : Run Item Item → Piece → Type 0
  GoodSaid m p = Good g m p × EndsRight p.ends m

  number_sim : (n : Num) (o : Option ℤ) → callees.size n ≡ o → number_lowered g.table o ≡ true
      → GoodSaid (needs (known w.numbers n) then λ z. gives (item (fixed_typ g.table int_typ) (V.Integer z)))
      (number_piece g.table (kit g) g.number callees g.tables o)
  number_sim n None e h = no h
  number_sim n (Some z) e h =
      let t : Sized = fixed_typ g.table int_typ in
      let value : ℤ → Run Item Item = λ y. gives (item t (V.Integer y)) in
      let is : known w.numbers n ≡ Some z = around.sizes n z e in (
        same_good g (value z) (needs (known w.numbers n) then value) (constant_piece (kit g) t (L.Integer z))
            (λ now. sym (ap (λ o. (needs o then value) now) is))
            (constant_good g t (L.Integer z) (h, g.knows.integer)),
        needs_right (one_end t) (known w.numbers n) value (λ y. fixed_right t (V.Integer y)),
      )

  truth_sim : (c : Con) (o : Option Bool) → callees.truth c ≡ o → is_some o ≡ true
      → GoodSaid (needs (known_truth w.numbers c) then λ b. gives (item (fixed_typ g.table T.Bool) (V.Truth b)))
      (truth_piece g.table (kit g) g.number callees g.tables o)
  truth_sim c None e h = no h
  truth_sim c (Some b) e h =
      let t : Sized = fixed_typ g.table T.Bool in
      let value : Bool → Run Item Item = λ y. gives (item t (V.Truth y)) in
      let is : known_truth w.numbers c ≡ Some b = around.truths c b e in (
        same_good g (value b) (needs (known_truth w.numbers c) then value) (constant_piece (kit g) t (L.Truth b))
            (λ now. sym (ap (λ o. (needs o then value) now) is)) (constant_good g t (L.Truth b) (truth_sits g b)),
        needs_right (one_end t) (known_truth w.numbers c) value (λ y. fixed_right t (V.Truth y)),
      )

  as_cased : (ys : Parts) → length (nodes ys) ≡ length (pieces ys)
  as_cased [] = refl
  as_cased (y ∷ ys) = ap suc (as_cased ys)

  row_sim : (place : TextPlace) (k : ℕ) (row : Row) (ys : Parts) (b : Bool) → has_state row ≡ b
      → row_lowered b (g.tables.cases k (length (nodes ys))) (nodes ys) ≡ true
      → GoodSaid (in_turn (runs ys) then called (reading g) w place k (F.Row row))
      (row_piece g.table (kit g) g.number callees g.tables b k row (pieces ys))
  row_sim place k row ys true state h =
      let q = and_parts (is_one (g.tables.cases k (length (nodes ys)))) (all_one (pieces ys) && all_lowered (nodes ys)) h in
      let p = and_parts (all_one (pieces ys)) (all_lowered (nodes ys)) q.1 in
      let one : is_one (g.tables.cases k (length (pieces ys))) ≡ true = subst (λ m. is_one (g.tables.cases k m) ≡ true) (as_cased ys) q.0 in (
        state_good g w place k row around.hart state (runs ys) (pieces ys) one p.0 (all_sim ys p.1) (all_right ys p.1),
        state_right g w place k row around.hart state (runs ys) (pieces ys) (as_many ys),
      )
  row_sim place k row ys false stateless h = (
    row_good g w place k row stateless (runs ys) (pieces ys) (all_sim ys h),
    built_right g k (length (pieces ys)) (runs ys) (λ xs. row_run row w.hart (vals xs)) (as_many ys),
  )

  -- of nodes whose operands come to a value
  value_right : (k : ℕ) (ys : Parts) (value : List Value → Option Value)
      → EndsRight (ends_of (g.tables.gives k) (g.tables.cases k (length (pieces ys)))) (built (reading g) k (runs ys) value)
  value_right k ys value = built_right g k (length (pieces ys)) (runs ys) (λ xs. needs (value (vals xs))) (as_many ys)

  called_right : (k f : ℕ) (place : TextPlace) (ys : Parts)
      → EndsRight (ends_of (g.tables.gives k) (g.tables.cases k (length (pieces ys)))) (in_turn (runs ys) then called (reading g) w place k (F.Function f))
  called_right k f place ys =
      let es = ends_of (g.tables.gives k) (g.tables.cases k (length (pieces ys))) in
      turn_right es (runs ys) (called (reading g) w place k (F.Function f))
      (λ xs e.
      then_right es ((reading g).calls k xs) (λ awaited. w.call place f awaited (vals xs) then λ v. made (reading g) k xs v)
      (λ awaited.
      then_right es (w.call place f awaited (vals xs)) (λ v. made (reading g) k xs v) (λ v. made_right g k (length (pieces ys)) xs v (e ∙ as_many ys))))

  variable_sim : (k : ℕ) (name : List ℕ) (us : List Sized) → g.tables.reads name ≡ us → variable_lowered us (g.tables.cases k 0) [] ≡ true
      → GoodSaid (variable_read (reading g) k name) (variable_piece (kit g) g.number us name (g.tables.cases k 0) (g.tables.gives k))
  variable_sim k name [] e h = no h
  variable_sim k name (u ∷ us) e h = (
    read_good g k name (subst (λ ts. cases_among ts (g.tables.cases k 0) ≡ true) (sym e) h),
    λ f now.
        needs_right (ends_of (g.tables.gives k) (g.tables.cases k 0)) (held_in name now.locals) (λ x. made (reading g) k [] x.val)
        (λ x. made_right g k 0 [] x.val refl) f now,
  )

  kind_sim : (place : TextPlace) (k : ℕ) (kind : Kind) (ys : Parts)
      → Does (kind_meaning (reading g) w place k kind (runs ys)) (record {
        piece = kind_piece g.table (kit g) g.number callees g.tables place k kind (pieces ys);
        ok = kind_lowered g.table callees g.tables k kind (nodes ys);
      })
  unfolding Sim
  kind_sim place k (K.Constant literal) [] h =
      let t = fixed_typ g.table (literal_typ literal) in
      let q = and_parts (has_sizes g.table (literal_value literal) t) (g.tables.known t) h in (
        subst (λ v. Good g (gives (item t v)) (constant_piece (kit g) t (constant_of literal))) (literal_same literal)
            (constant_good g t (constant_of literal) (ap (λ v. has_sizes g.table v t) (literal_same literal) ∙ q.0, q.1)),
        fixed_right t (literal_value literal),
      )
  kind_sim place k (K.Local name) [] h = (
    local_good g k name,
    λ f now.
        needs_right (ends_of (g.tables.gives k) (g.tables.cases k 1)) (held_in name now.locals) (λ x. made (reading g) k (x ∷ []) x.val)
        (λ x. made_right g k 1 (x ∷ []) x.val refl) f now,
  )
  kind_sim place k (K.Variable name) [] h = variable_sim k name (g.tables.reads name) refl h
  kind_sim place k (K.Variable name) (y ∷ ys) h =
      let q = and_parts (is_read (g.tables.reads name)) (no_parts (nodes (y ∷ ys)) && cases_among (g.tables.reads name) (g.tables.cases k 0)) h in
      no (and_parts (no_parts (nodes (y ∷ ys))) (cases_among (g.tables.reads name) (g.tables.cases k 0)) q.1).0
  kind_sim place k (K.TopLevel i) [] h = (
    top_level_good g callees w around k i,
    needs_right (ends_of (g.tables.gives k) (g.tables.cases k 0)) (slice_get w.lets i) (λ v. made (reading g) k [] v) (λ v. made_right g k 0 [] v refl),
  )
  kind_sim place k (K.Register r) [] h = (
    register_good g callees w around k r,
    then_right (ends_of (g.tables.gives k) (g.tables.cases k 0)) (read_register w r) (λ v. made (reading g) k [] v) (λ v. made_right g k 0 [] v refl),
  )
  kind_sim place k (K.Call (F.Function f)) ys h =
      let q = and_parts (leads_to g.tables.of f (g.tables.leads k)) (all_lowered (nodes ys)) h in (
        call_good g callees w calls place k f q.0 (runs ys) (pieces ys) (all_sim ys q.1),
        called_right k f place ys,
      )
  kind_sim place k (K.Call (F.Row row)) ys h = row_sim place k row ys (has_state row) refl h
  kind_sim place k (K.Call (F.Constructor u c)) ys h = (
    constructor_good g w place k u c (runs ys) (pieces ys) (all_sim ys h),
    turn_right (ends_of (g.tables.gives k) (g.tables.cases k (length (pieces ys)))) (runs ys) (called (reading g) w place k (F.Constructor u c))
        (λ xs e. made_right g k (length (pieces ys)) xs (V.Union u c (payload_of (vals xs))) (e ∙ as_many ys)),
  )
  kind_sim place k K.Tuple ys h = (tuple_good g k (runs ys) (pieces ys) (all_sim ys h), value_right k ys tuple_of)
  kind_sim place k (K.Vector shape) ys h = (vector_good g k (runs ys) (pieces ys) (all_sim ys h), value_right k ys vector_of)
  kind_sim place k (K.List shape) ys h = (list_good g k (runs ys) (pieces ys) (all_sim ys h), value_right k ys list_of)
  kind_sim place k (K.Cons shape) ys h = (cons_good g k (runs ys) (pieces ys) (all_sim ys h), value_right k ys cons_of)
  kind_sim place k (K.Struct struct fields) ys h =
      (struct_good g struct fields k (runs ys) (pieces ys) (all_sim ys h), value_right k ys (struct_of struct fields))
  kind_sim place k (K.With struct (i ∷ [])) ys h =
      (with_good g struct i k (runs ys) (pieces ys) (all_sim ys h), value_right k ys (with_of struct (i ∷ [])))
  kind_sim place k (K.With struct (i ∷ j ∷ is)) ys h =
      (with_several_good g struct i j is k (runs ys) (pieces ys) (all_sim ys h), value_right k ys (with_of struct (i ∷ j ∷ is)))
  kind_sim place k (K.Part suffixes) (y ∷ ys) h =
      let q = and_parts (ok y.0) (path_lowered suffixes (nodes ys)) h in
      let it = y.1 q.0 in
      let path = path_sim suffixes ys q.1 in (
        path_good g suffixes (runs ys) (pieces ys) (me y.0) (code y.0) it.0 path,
        path_right g suffixes (runs ys) (pieces ys) (me y.0) (code y.0) path it.1,
      )
  kind_sim place k K.WithItem (a ∷ b ∷ c ∷ []) h =
      let q = and_parts (ok a.0) (ok b.0 && ok c.0) h in
      let p = and_parts (ok b.0) (ok c.0) q.1 in
      let good = with_item_good g (me a.0) (code a.0) (me b.0) (code b.0) (me c.0) (code c.0) (a.1 q.0).0 (b.1 p.0).0 (c.1 p.1).0 k in
      (good, item_right g k (me a.0) (me b.0) (me c.0))
  kind_sim place k K.WithSlice (a ∷ b ∷ c ∷ d ∷ []) h =
      let q = and_parts (ok a.0) (ok b.0 && (ok c.0 && ok d.0)) h in
      let p = and_parts (ok b.0) (ok c.0 && ok d.0) q.1 in
      let r = and_parts (ok c.0) (ok d.0) p.1 in
      let good =
      with_slice_good g (me a.0) (code a.0) (me b.0) (code b.0) (me c.0) (code c.0) (me d.0) (code d.0) (a.1 q.0).0 (b.1 p.0).0 (c.1 r.0).0 (d.1 r.1).0 k in
      (good, slice_right g k (me a.0) (me b.0) (me c.0) (me d.0))
  kind_sim place k (K.Cast written) (y ∷ []) h = (
    cast_good g (me y.0) (code y.0) (y.1 h).0 k,
    then_right (ends_of (g.tables.gives k) (g.tables.cases k 1)) (me y.0) (λ x. made (reading g) k (x ∷ []) x.val)
        (λ x. made_right g k 1 (x ∷ []) x.val refl),
  )
  kind_sim place k (K.SizeOf t numbers) [] h = number_sim t (callees.size t) refl h
  kind_sim place k (K.Constraint c numbers) [] h = truth_sim c (callees.truth c) refl h
  kind_sim place k (K.Assign (t ∷ [])) ys h =
      let q = and_parts (spot_lowered g.table g.tables (target_spot t) (length (nodes ys))) (all_lowered (nodes ys)) h in
      let known = subst (λ n. spot_lowered g.table g.tables (target_spot t) n ≡ true) (as_cased ys) q.0 in
      let good = assign_good g callees w calls around t (runs ys) (pieces ys) (all_sim ys q.1) known in
      (record { run = good.run }, λ f. no f)
  kind_sim place k (K.Block statements) ys h = (block_sim k statements ys h, block_said k statements ys h)
  kind_sim place k (K.Var name written) (a ∷ b ∷ []) h =
      let q = and_parts (ok a.0) (ok b.0) h in
      (var_good g name (me a.0) (code a.0) (me b.0) (code b.0) (a.1 q.0).0 (b.1 q.1).0, var_right name (me a.0) (me b.0) (code b.0).ends (b.1 q.1).1)
  kind_sim place k (K.If shape) (a ∷ b ∷ []) h =
      let q = and_parts (ok a.0) (ok b.0) h in (
        if_good g (me a.0) (code a.0) ((reading g).inside (me b.0)) (inside_piece (kit g) (code b.0)) (gives (nothing (reading g))) (unit_piece (kit g))
            (a.1 q.0).0 (inside_good g (me b.0) (code b.0) (b.1 q.1).0) unit_good,
        λ f. no f,
      )
  kind_sim place k (K.If shape) (a ∷ b ∷ c ∷ []) h =
      let q = and_parts (ok a.0) (ok b.0 && ok c.0) h in
      let p = and_parts (ok b.0) (ok c.0) q.1 in
      let mb : Run Item Item = (reading g).inside (me b.0) in
      let mc : Run Item Item = (reading g).inside (me c.0) in
      let pb : Piece = inside_piece (kit g) (code b.0) in
      let pc : Piece = inside_piece (kit g) (code c.0) in
      let good =
      meet_good g (me a.0 then λ x. truth (reading g) x then if_so mb mc) (if_piece (kit g) (code a.0) pb pc)
      (if_good g (me a.0) (code a.0) mb pb mc pc (a.1 q.0).0 (inside_good g (me b.0) (code b.0) (b.1 p.0).0)
      (inside_good g (me c.0) (code c.0) (c.1 p.1).0)) k in
      (good, met_right g k (me a.0 then λ x. truth (reading g) x then if_so mb mc))
  kind_sim place k K.While (a ∷ b ∷ c ∷ []) h =
      let q = and_parts (ok a.0) (ok b.0 && ok c.0) h in
      let p = and_parts (ok b.0) (ok c.0) q.1 in
      (while_good g place (me a.0) (code a.0) (me b.0) (code b.0) (me c.0) (code c.0) (a.1 q.0).0 (b.1 p.0).0 (c.1 p.1).0, λ f. no f)
  kind_sim place k K.Repeat (a ∷ b ∷ c ∷ []) h =
      let q = and_parts (ok a.0) (ok b.0 && ok c.0) h in
      let p = and_parts (ok b.0) (ok c.0) q.1 in
      (repeat_good g place (me a.0) (code a.0) (me b.0) (code b.0) (me c.0) (code c.0) (a.1 q.0).0 (b.1 p.0).0 (c.1 p.1).0, λ f. no f)
  kind_sim place k (K.Foreach name way) (a ∷ b ∷ c ∷ d ∷ []) h =
      let f = and_parts (is_empty (g.tables.reads name)) (ok a.0 && (ok b.0 && (ok c.0 && ok d.0))) h in
      let q = and_parts (ok a.0) (ok b.0 && (ok c.0 && ok d.0)) f.1 in
      let p = and_parts (ok b.0) (ok c.0 && ok d.0) q.1 in
      let r = and_parts (ok c.0) (ok d.0) p.1 in
      let good =
      foreach_good g name way (me a.0) (code a.0) (me b.0) (code b.0) (me c.0) (code c.0) (me d.0) (code d.0) f.0 (a.1 q.0).0 (b.1 p.0).0 (c.1 r.0).0
      (d.1 r.1).0 in
      (good, λ f. no f)
  kind_sim place k K.Throw (y ∷ []) h = (throw_good g (me y.0) (code y.0) (y.1 h).0, λ f. no f)
  kind_sim place k K.Return (y ∷ []) h = (return_good g (me y.0) (code y.0) (y.1 h).0, λ f. no f)
  kind_sim place k K.Exit (y ∷ []) h = (stop_good g (Exit place) (me y.0) (code y.0) (y.1 h).0, λ f. no f)
  kind_sim place k (K.Assert text) (y ∷ []) h = (assert_good g (Assertion place text) (me y.0) (code y.0) (y.1 h).0, λ f. no f)
  kind_sim place k K.And (a ∷ b ∷ []) h =
      let q = and_parts (ok a.0) (ok b.0) h in
      (and_good g (me a.0) (code a.0) (me b.0) (code b.0) (a.1 q.0).0 (b.1 q.1).0, λ f. no f)
  kind_sim place k K.Or (a ∷ b ∷ []) h =
      let q = and_parts (ok a.0) (ok b.0) h in
      (or_good g (me a.0) (code a.0) (me b.0) (code b.0) (a.1 q.0).0 (b.1 q.1).0, λ f. no f)
  kind_sim place k K.When (a ∷ b ∷ []) h =
      let q = and_parts (ok a.0) (ok b.0) h in (
        when_good g (me a.0) (code a.0) (me b.0) (code b.0) (a.1 q.0).0 (b.1 q.1).0,
        tested_right (code b.0).ends (me a.0) (truth (reading g)) (me b.0) (b.1 q.1).1,
      )
  kind_sim place k (K.Let arm) (a ∷ b ∷ []) h =
      let q = and_parts (arm_fits callees.size callees.crosses g.tables.reads arm) (is_matched (at_node a.0) && ok b.0) h in
      let p = and_parts (is_matched (at_node a.0)) (ok b.0) q.1 in
      let r = and_parts (ok a.0) (has_ends (code a.0).ends) p.0 in
      let it = a.1 r.0 in
      let body = b.1 p.1 in (
        let_good g w callees.crosses k 0 place (me a.0) (code a.0) arm (me b.0) (code b.0) (arm_known arm q.0) it.0 it.1 r.1 body.0,
        bound_right k 0 place (me a.0) arm (me b.0) (code b.0).ends body.1,
      )
  kind_sim place k (K.Match arms shape) (y ∷ ys) h =
      let q = and_parts (is_matched (at_node y.0)) (arms_fit callees.size callees.crosses g.tables.reads arms && all_lowered (nodes ys)) h in
      let p = and_parts (arms_fit callees.size callees.crosses g.tables.reads arms) (all_lowered (nodes ys)) q.1 in
      let r = and_parts (ok y.0) (has_ends (code y.0).ends) q.0 in
      let it = y.1 r.0 in
      let cause : Cause = MatchFailure place in
      let good =
      meet_good g (me y.0 then λ x. first_of (reading g) w k arms (runs ys) (stops cause) (x ∷ []))
      (match_piece g.table (kit g) (g.tables.named k) (code y.0) arms (pieces ys) cause)
      (match_good g w callees.crosses k (me y.0) (code y.0) arms (runs ys) (pieces ys) cause (arms_known arms p.0) it.0 it.1 r.1 (all_sim ys p.1)) k in
      (good, met_right g k (me y.0 then λ x. first_of (reading g) w k arms (runs ys) (stops cause) (x ∷ [])))
  kind_sim place k (K.Try arms shape) (y ∷ ys) h =
      let es = ends_of (g.tables.gives k) (g.tables.cases k 0) in
      let q = and_parts (ok y.0) (has_ends es && (arms_fit callees.size callees.crosses g.tables.reads arms && all_lowered (nodes ys))) h in
      let p = and_parts (has_ends es) (arms_fit callees.size callees.crosses g.tables.reads arms && all_lowered (nodes ys)) q.1 in
      let r = and_parts (arms_fit callees.size callees.crosses g.tables.reads arms) (all_lowered (nodes ys)) p.1 in
      let good =
      meet_good g (tried (reading g) w k arms (runs ys) (me y.0))
      (try_piece g.table (kit g) (g.tables.cases k 0) (g.tables.gives k) (g.tables.named k) arms (pieces ys) (code y.0))
      (try_good g w callees.crosses k arms (runs ys) (pieces ys) (arms_known arms r.0) p.0 (all_sim ys r.1) (me y.0) (code y.0) (y.1 q.0).0) k in
      (good, met_right g k (tried (reading g) w k arms (runs ys) (me y.0)))
  kind_sim place k (K.Call (F.Applies d)) (y ∷ []) h =
      let q = and_parts (applied_lowered callees d (code y.0).ends) (ok y.0) h in
      let p = and_parts (callees.crosses d) (ends_with (callees.direction d).takes (fixed_end (code y.0).ends)) q.0 in
      let it = y.1 q.1 in
      (applied_good g callees w calls place k d (me y.0) (code y.0) it.0 it.1 p.1 p.0, applied_right g callees w calls place k d (me y.0))
  kind_sim place k (K.Clauses arms) ys h =
      let q = and_parts (arms_fit callees.size callees.crosses g.tables.reads arms) (all_lowered (nodes ys)) h in
      let good =
      clauses_good g w callees.crosses k callees.given arms (runs ys) (pieces ys) around.arguments around.given around.had (arms_known arms q.0)
      (all_sim ys q.1) in
      (record { run = good.run }, clauses_right g w k w.arguments arms (runs ys) (pieces ys) (all_right ys q.1))
  kind_sim place k kind ys h = no h

  node_sim : (y : Core-F Known) → Sim (roll-Core (map-Core Known Core (λ q. q.0) y))
  unfolding Sim
  node_sim y =
      let d : Core-F Core = map-Core Known Core (λ q. q.0) y in
      subst (λ r. Does r (at_node (roll-Core d)))
      (sym (fold-roll-Core (Run Item Item) (λ c. kind_meaning (reading g) w c.place c.number c.kind c.parts) d))
      (subst (λ n. Does (kind_meaning (reading g) w y.place y.number y.kind (runs y.parts)) n)
      (sym (fold-roll-Core Node (λ c. record {
        piece = kind_piece g.table (kit g) g.number callees g.tables c.place c.number c.kind (pieces_of c.parts);
        ok = kind_lowered g.table callees g.tables c.number c.kind c.parts;
      }) d))
      (kind_sim y.place y.number y.kind y.parts))

  all_sims : (c : Core) → Sim c
  all_sims = ind-Core Sim (λ c y same. subst (λ d. Sim (roll-Core d)) same (node_sim y))

  pub node_good : (c : Core) → is_lowered g.table (kit g) g.number callees g.tables c ≡ true → Good g (me c) (code c)
  unfolding Sim
  node_good c h = (all_sims c h).0

  pub node_right : (c : Core) → is_lowered g.table (kit g) g.number callees g.tables c ≡ true → EndsRight (code c).ends (me c)
  unfolding Sim
  node_right c h = (all_sims c h).1
