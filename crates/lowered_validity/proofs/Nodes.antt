-- The code of each node keeps the rules, where it is decided that it has its types: by induction on the tree.
use Rattle.sail_types.specs.declared.types.Typ.TheVariants as Y
use Rattle.jib.specs.declared.code.Literal.TheVariants as L
use Rattle.jib.specs.declared.code.Source.TheVariants as R
use Rattle.jib.specs.declared.code.Operation.TheVariants as O
use Rattle.sail_core.specs.declared.tree.Callee.TheVariants as F
use Rattle.sail_core.specs.declared.tree.Statement.TheVariants as S
use Rattle.sail_core.specs.declared.tree.Kind.TheVariants as K
use Rattle.sail_base.specs.declared.place.Place.{Place as TextPlace}
use Rattle.model_state.specs.declared.cause.Cause.TheVariants.{Exit, Assertion, MatchFailure}
use Rattle.std.proofs.Common.{subst, reverse, not}
use Rattle.sail_core.specs.Meaning.{option_typ}
use Rattle.jib.specs.Typing.{payload_typ, same}
use Rattle.lowered_pieces.specs.Mapped.{all_end, common_ends, ends_if, ends_with, fixed_end}
use Rattle.lowered_pieces.specs.Writes.{target_spot}
use Rattle.lowered_pieces.specs.Fields.{with_make}
use Rattle.lowered_pieces.specs.Gathered.{only_end}
use Rattle.lowered_validity.specs.Typing.{all_ending, applies_right, comes, common_of, ending_if, is_changed, matched_right, moves_to, shell}
use Rattle.sail_core.specs.declared.tree.Core.{Core, Core-F, roll-Core, fold-roll-Core, map-Core, ind-Core}
use Rattle.row_types.specs.Calls.{has_state}
use Rattle.jib.specs.Typing.{source_typ}
use Rattle.lowered_validity.specs.Typing.{arms_right, block_ends, block_right, block_types, ends_right}
use Rattle.lowered_validity.specs.Typing.{kind_ends, kind_right, kind_types, number_ends, number_right}
use Rattle.lowered_validity.specs.Typing.{number_types, row_ends, row_right, truth_ends, truth_right, truth_types, typing, Typing}
use Rattle.std.proofs.Common.{Bool, List, None, Option, Some, [], ap, false, if◌then◌else◌, length, map, refl, suc, sym, true, ℕ, ℤ, ◌&&◌, ◌++◌, ◌∙◌, ◌∷◌}
use Rattle.std.proofs.Common.{◌≡◌}
use Rattle.std.specs.Prelude.{slice_get}
use Rattle.checked_meaning.specs.Items.{fixed_typ}
use Rattle.jib.specs.Operands.{makes}
use Rattle.jib.specs.Valid.{is_stateless}
use Rattle.jib.specs.declared.code.Function.{Function}
use Rattle.jib.specs.declared.code.Module.{Module}
use Rattle.jib.specs.declared.code.Operation.{Operation}
use Rattle.lowered_pieces.specs.Arms.{Matched, arguments, constant_of, fall_piece, in_hand, let_piece, match_piece, try_piece}
use Rattle.lowered_pieces.specs.Forms.{Callees, End, Maker, Order, Piece, call_piece, construct_make, ends_of, if_piece, in_fields, in_order, inside_piece}
use Rattle.lowered_pieces.specs.Forms.{variable_make, variable_piece}
use Rattle.lowered_pieces.specs.Forms.{local_make, made_of_piece, made_piece, meet_piece, one_end, source_make, unit_piece, unit_source, work_piece}
use Rattle.lowered_pieces.specs.Gathered.{state_piece}
use Rattle.lowered_pieces.specs.Lowering.{Node, block_piece, kind_lowered, kind_piece, kit_of, node, number_piece, piece, pieces_of, row_piece, truth_piece}
use Rattle.lowered_pieces.proofs.Pathing.{path_said}
use Rattle.lowered_pieces.specs.Paths.{path_ends}
use Rattle.lowered_pieces.specs.Places.{Kit, Naming}
use Rattle.lowered_pieces.specs.Tables.{Tables}
use Rattle.lowered_types.specs.Table.{type_in}
use Rattle.lowered_validity.proofs.Arms.{RightAll, fall_right, first_right, let_right, match_right, try_right}
use Rattle.lowered_validity.proofs.Fitting.{Ordered, both, fields_fit, in_order_fits, parts_of, reverse_fits}
use Rattle.lowered_validity.proofs.Forms.{and_right, assert_right, var_right, constant_right, if_right, inside_right, meet_is_right, or_right, return_right}
use Rattle.lowered_validity.proofs.Forms.{seq_right, stop_right, throw_right, unit_right, when_right}
use Rattle.lowered_validity.proofs.Loops.{foreach_right, repeat_right, while_right}
use Rattle.lowered_validity.proofs.Makers.{Makes, construct_makes, local_makes, made_piece_right, source_makes, variable_makes, with_makes}
use Rattle.lowered_validity.proofs.Working.{Helds, applied_right, call_is_right, cast_right, free_of, helds_of, made_of_right, optional_is_right}
use Rattle.lowered_validity.proofs.Working.{path_is_right, state_is_right, work_right, write_is_right}
use Rattle.lowered_validity.specs.Laws.{Numbered}
use Rattle.lowered_validity.specs.Right.{Placed, RightPiece, Signs}
use Rattle.lowered_validity.specs.Typing.{all_right, all_thrown, are_of, arms_types, cases_right}
use Rattle.lowered_validity.specs.Typing.{gives_in, is_cast, is_constructed, is_recast, is_sourced, is_work}
use Rattle.lowered_validity.specs.Typing.{kept_right, variable_ends, variable_right, variable_types}
use Rattle.lowered_validity.specs.Typing.{leads_right, meet_right, numbers, operand_types, path_right, state_right, write_right}
use Rattle.sail_core.specs.Values.{int_typ, literal_typ}
use Rattle.sail_core.specs.declared.patterns.Arm.{Arm}
use Rattle.sail_core.specs.declared.tree.Kind.{Kind}
use Rattle.sail_core.specs.declared.tree.Statement.{Statement}
use Rattle.sail_types.specs.Named.{fields}
use Rattle.sail_types.specs.declared.rows.Row.{Row}
use Rattle.sail_types.specs.declared.table.Types.{Types}
use Rattle.size_values.specs.declared.sized.Sized.{Sized}
use Rattle.sized_nodes.specs.declared.trees.Case.{Case}
use Rattle.value_indices.specs.declared.indices.Indices.{Indices}

module _ (types : Types) (ss : List Sized) (callees : Callees) (m : Module) (f : Function) (n : ℕ) (name : Naming) (g : Signs)
    (pl : Placed types ss (type_in ss) callees m f n name g) (tables : Tables) (all : Numbered types tables ss) where
  abbrev K_ : Kit
  K_ = kit_of types name (type_in ss) g.exception callees.size callees.direction

  abbrev number : Sized → ℕ
  number = type_in ss

  abbrev Piece_ : Piece → List Sized → Type 0
  Piece_ p ts = RightPiece m f n p ts

  -- a piece with these ends, of which this is decided
  abbrev Good : Piece → List End → List Sized → Type 0
  Good p es ts = (p.ends ≡ es) × Piece_ p ts

  abbrev at_node : Core → Node
  at_node = node types K_ number callees tables

  abbrev code : Core → Piece
  code = piece types K_ number callees tables

  abbrev typed : Core → Typing
  typed = typing types number callees tables g

  Mine : Core → Type 0
  Mine c = (typed c).right ≡ true → Good (code c) (typed c).ends (typed c).types

  abbrev Known : Type 0
  Known = (c : Core) × Mine c

  abbrev pieces : List Known → List Piece
  pieces ys = pieces_of (map at_node (map (λ y. y.0) ys))

  abbrev typings : List Known → List Typing
  typings ys = map typed (map (λ y. y.0) ys)

  no_way : {A : Type 0} → false ≡ true → A
  no_way h = cc

  -- what isn't pure
  free_from : (b : Bool) → (not g.is_pure && b) ≡ true → f.is_pure ≡ false
  free_from b d = free_of types ss callees m f n name g pl tables all (by g.is_pure (parts_of (not g.is_pure) b d).0)
    where
      by : (x : Bool) → not x ≡ true → x ≡ false
      by true h = no_way h
      by false h = refl

  all_mine : (ys : List Known) → RightAll types ss callees m f n name g pl tables all (pieces ys) (typings ys)
  unfolding Mine
  all_mine [] = tt
  all_mine (y ∷ ys) = (y.1, all_mine ys)

  helds : (ys : List Known) → all_right (typings ys) ≡ true → Helds types ss callees m f n name g pl tables all (pieces ys)
  helds ys d = helds_of types ss callees m f n name g pl tables all (pieces ys) (typings ys) (all_mine ys) d

  many_same : (ys : List Known) → length (typings ys) ≡ length (pieces ys)
  many_same [] = refl
  many_same (y ∷ ys) = ap suc (many_same ys)

  -- cases go by the count of operands
  counted : (k : ℕ) (ys : List Known) (made : List Case → Piece)
      → Good (made (tables.cases k (length (typings ys)))) (ends_of (tables.gives k) (tables.cases k (length (typings ys))))
      (gives_in (tables.cases k (length (typings ys))))
      → Good (made (tables.cases k (length (pieces ys)))) (ends_of (tables.gives k) (tables.cases k (length (typings ys))))
      (gives_in (tables.cases k (length (typings ys))))
  counted k ys made h =
      subst (λ j. Good (made (tables.cases k j)) (ends_of (tables.gives k) (tables.cases k (length (typings ys))))
      (gives_in (tables.cases k (length (typings ys))))) (many_same ys) h

  worked : (k : ℕ) (op : Operation) (first second : Order) → Ordered types ss callees m f n name g pl first second → (f.is_pure ≡ true → is_stateless op ≡ true)
      → (ys : List Known)
      → (all_right (typings ys)
      && cases_right types number callees tables g (is_work types number callees tables g op second) (tables.cases k (length (typings ys)))) ≡ true
      → Good (work_piece K_ number op first (tables.cases k (length (pieces ys))) (tables.gives k) (pieces ys))
      (ends_of (tables.gives k) (tables.cases k (length (typings ys)))) (gives_in (tables.cases k (length (typings ys))))
  worked k op first second ordered pure ys d =
      let cases : List Case = tables.cases k (length (typings ys)) in
      let q = parts_of (all_right (typings ys)) (cases_right types number callees tables g (is_work types number callees tables g op second) cases) d in
      counted k ys (λ cs. work_piece K_ number op first cs (tables.gives k) (pieces ys))
      (refl, work_right types ss callees m f n name g pl tables all op first second ordered pure cases q.1 (tables.gives k) (pieces ys) (helds ys q.0))

  in_order_worked : (k : ℕ) (op : Operation) → is_stateless op ≡ true → (ys : List Known)
      → (all_right (typings ys)
      && cases_right types number callees tables g (is_work types number callees tables g op in_order) (tables.cases k (length (typings ys)))) ≡ true
      → Good (work_piece K_ number op in_order (tables.cases k (length (pieces ys))) (tables.gives k) (pieces ys))
      (ends_of (tables.gives k) (tables.cases k (length (typings ys)))) (gives_in (tables.cases k (length (typings ys))))
  in_order_worked k op h ys d = worked k op in_order in_order (in_order_fits types ss callees m f n name g pl) (λ e. h) ys d

  -- ---- calls

  called : (place : TextPlace) (k : ℕ) (ys : List Known)
      → (not g.is_pure && (all_right (typings ys)
      && leads_right types number callees tables g (tables.cases k (length (typings ys))) (tables.leads k))) ≡ true
      → Good (call_piece K_ number callees place (tables.cases k (length (pieces ys))) (tables.leads k) (tables.gives k) (pieces ys))
      (ends_of (tables.gives k) (tables.cases k (length (typings ys)))) (gives_in (tables.cases k (length (typings ys))))
  called place k ys d =
      let cases : List Case = tables.cases k (length (typings ys)) in
      let a : Bool = all_right (typings ys) in
      let b : Bool = leads_right types number callees tables g cases (tables.leads k) in
      let q = parts_of (not g.is_pure) (a && b) d in
      let r = parts_of a b q.1 in
      counted k ys (λ cs. call_piece K_ number callees place cs (tables.leads k) (tables.gives k) (pieces ys)) (
        refl,
        call_is_right types ss callees m f n name g pl tables all place cases (tables.leads k) (tables.gives k) (pieces ys) (free_from (a && b) d)
            (helds ys r.0) r.1,
      )

  row_mine : (b : Bool) (k : ℕ) (row : Row) (ys : List Known) → has_state row ≡ b
      → row_right types number callees tables g b row (tables.cases k (length (typings ys))) (typings ys) ≡ true
      → Good (row_piece types K_ number callees tables b k row (pieces ys))
      (row_ends types number callees tables g b k (tables.cases k (length (typings ys)))) (gives_in (tables.cases k (length (typings ys))))
  row_mine true k row ys e d =
      let cases : List Case = tables.cases k (length (typings ys)) in
      let a : Bool = all_right (typings ys) in
      let us : List Sized = operand_types types number callees tables g (typings ys) in
      let b : Bool = state_right types number callees tables g row cases us in
      let q = parts_of (not g.is_pure) (a && b) d in
      let r = parts_of a b q.1 in
      subst (λ j. Good (state_piece K_ row (tables.cases k j) (tables.gives k) (pieces ys)) (row_ends types number callees tables g true k cases)
      (gives_in cases))
      (many_same ys)
      (state_is_right types ss callees m f n name g pl tables all row cases (tables.gives k) (pieces ys) (typings ys) (free_from (a && b) d) (all_mine ys)
      r.0 r.1)
  row_mine false k row ys e d =
      worked k (O.Builtin row) in_order in_order (in_order_fits types ss callees m f n name g pl) (λ x. ap not e) ys d

  constructed_ : (k u c : ℕ) (ys : List Known)
      → (all_right (typings ys) && cases_right types number callees tables g (is_constructed types number callees tables g u c)
      (tables.cases k (length (typings ys)))) ≡ true
      → Good (made_of_piece K_ number (construct_make K_ number types u c) (tables.cases k (length (pieces ys))) (tables.gives k) (pieces ys))
      (ends_of (tables.gives k) (tables.cases k (length (typings ys)))) (gives_in (tables.cases k (length (typings ys))))
  constructed_ k u c ys d =
      let cases : List Case = tables.cases k (length (typings ys)) in
      let p : Case → Bool = is_constructed types number callees tables g u c in
      let q = parts_of (all_right (typings ys)) (cases_right types number callees tables g p cases) d in
      counted k ys (λ cs. made_of_piece K_ number (construct_make K_ number types u c) cs (tables.gives k) (pieces ys)) (
        refl,
        made_of_right types ss callees m f n name g pl tables all p (construct_make K_ number types u c)
            (construct_makes types ss callees m f n name g pl tables all u c) cases q.1 (tables.gives k) (pieces ys) (helds ys q.0),
      )

  -- ---- leaves

  made_mine : (k j : ℕ) (p : Case → Bool) (make : Maker K_ number) → Makes types ss callees m f n name g pl tables all p make
      → cases_right types number callees tables g p (tables.cases k j) ≡ true
      → Good (made_piece K_ number make (tables.cases k j) (tables.gives k)) (ends_of (tables.gives k) (tables.cases k j)) (gives_in (tables.cases k j))
  made_mine k j p make makes d = (refl, made_piece_right types ss callees m f n name g pl tables all p make makes (tables.cases k j) d (tables.gives k))

  variable_mine : (k : ℕ) (text : List ℕ) (us : List Sized) → variable_right types number callees tables g us (tables.cases k 0) ≡ true
      → Good (variable_piece K_ number us text (tables.cases k 0) (tables.gives k))
      (variable_ends types number callees tables g us (tables.gives k) (tables.cases k 0)) (variable_types types number callees tables g us (tables.cases k 0))
  variable_mine k text [] d = no_way d
  variable_mine k text (u ∷ us) d =
      made_mine k 0 (λ c. true) (variable_make K_ number text) (variable_makes types ss callees m f n name g pl tables all text) d

  let_mine : (k i : ℕ) → cases_right types number callees tables g (is_sourced types number callees tables g (slice_get g.lets i)) (tables.cases k 0) ≡ true
      → Good (made_piece K_ number (source_make K_ number (R.Let i)) (tables.cases k 0) (tables.gives k)) (ends_of (tables.gives k) (tables.cases k 0))
      (gives_in (tables.cases k 0))
  let_mine k i d =
      made_mine k 0 (is_sourced types number callees tables g (slice_get g.lets i)) (source_make K_ number (R.Let i))
      (source_makes types ss callees m f n name g pl tables all (R.Let i) (slice_get g.lets i) (λ t e u. pl.lets i t e) (λ e. refl)) d

  register_mine : (k r : ℕ)
      → (not g.is_pure && cases_right types number callees tables g (is_sourced types number callees tables g (slice_get g.registers r)) (tables.cases k 0))
      ≡ true
      → Good (made_piece K_ number (source_make K_ number (R.Register r)) (tables.cases k 0) (tables.gives k)) (ends_of (tables.gives k) (tables.cases k 0))
      (gives_in (tables.cases k 0))
  register_mine k r d =
      let o : Option ℕ = slice_get g.registers r in
      let b : Bool = cases_right types number callees tables g (is_sourced types number callees tables g o) (tables.cases k 0) in
      let free : f.is_pure ≡ false = free_from b d in
      made_mine k 0 (is_sourced types number callees tables g o) (source_make K_ number (R.Register r))
      (source_makes types ss callees m f n name g pl tables all (R.Register r) o (λ t e u. ap (λ rs. slice_get rs r) pl.registers ∙ e)
      (λ e. no_way (sym free ∙ e)))
      (parts_of (not g.is_pure) b d).1

  number_mine : (o : Option ℤ) → number_right types number callees tables g o ≡ true
      → Good (number_piece types K_ number callees tables o) (number_ends types number callees tables g o) (number_types types number callees tables g o)
  number_mine None d = no_way d
  number_mine (Some z) d = (refl, constant_right types ss callees m f n name g pl tables all (fixed_typ types int_typ) (L.Integer z) d)

  truth_mine : (o : Option Bool) → truth_right types number callees tables g o ≡ true
      → Good (truth_piece types K_ number callees tables o) (truth_ends types number callees tables g o) (truth_types types number callees tables g o)
  truth_mine None d = no_way d
  truth_mine (Some b) d = (refl, constant_right types ss callees m f n name g pl tables all (fixed_typ types Y.Bool) (L.Truth b) d)

  -- ---- blocks

  arm_ends : (y : Known) (arm : Arm) → (typed y.0).right ≡ true → ends_right types number callees tables g arm (typed y.0).ends ≡ true
      → ends_right types number callees tables g arm (code y.0).ends ≡ true
  unfolding Mine
  arm_ends y arm r d = ap (λ es. ends_right types number callees tables g arm es) (y.1 r).0 ∙ d

  let_is_mine : (gives : List Indices) (y : Known) (arm : Arm) (b : Piece) (ts : List Sized) (place : TextPlace) → (typed y.0).right ≡ true
      → ends_right types number callees tables g arm (typed y.0).ends ≡ true → Piece_ b ts
      → Piece_ (let_piece types K_ gives (code y.0) arm b (MatchFailure place)) ts
  unfolding Mine
  let_is_mine gives y arm b ts place r d hb =
      let_right types ss callees m f n name g pl tables all gives (code y.0) (typed y.0).types arm b ts (MatchFailure place) refl (y.1 r).1
      (arm_ends y arm r d) hb

  block_mine : (k : ℕ) (qs : List Statement) (ys : List Known) → block_right types number callees tables g qs (typings ys) ≡ true
      → Piece_ (block_piece types K_ number callees tables k qs (pieces ys)) (block_types types number callees tables g qs (typings ys))
  unfolding Mine
  block_mine k [] [] d = unit_right types ss callees m f n name g pl tables all
  block_mine k [] (y ∷ []) d = (y.1 d).1
  block_mine k [] (y ∷ x ∷ ys) d = no_way d
  block_mine k (S.Evaluate ∷ qs) [] d = no_way d
  block_mine k (S.Declare text written ∷ qs) [] d = no_way d
  block_mine k (S.Define place arm ∷ qs) [] d = no_way d
  block_mine k (S.Define place arm ∷ qs) (y ∷ ys) d =
      let rest : Bool = block_right types number callees tables g qs (typings ys) in
      let e : Bool = ends_right types number callees tables g arm (typed y.0).ends in
      let q = parts_of (typed y.0).right (e && rest) d in
      let r = parts_of e rest q.1 in
      let_is_mine (tables.named k (length qs)) y arm (block_piece types K_ number callees tables k qs (pieces ys))
      (block_types types number callees tables g qs (typings ys)) place q.0 r.0 (block_mine k qs ys r.1)
  block_mine k (S.Evaluate ∷ qs) (y ∷ ys) d =
      let q = parts_of (typed y.0).right (block_right types number callees tables g qs (typings ys)) d in
      seq_right types ss callees m f n name g pl tables all (code y.0) (block_piece types K_ number callees tables k qs (pieces ys)) (typed y.0).types
      (block_types types number callees tables g qs (typings ys)) (y.1 q.0).1 (block_mine k qs ys q.1)
  block_mine k (S.Declare text written ∷ qs) (y ∷ ys) d =
      let us : List Sized = tables.reads text in
      let rest : Bool = block_right types number callees tables g qs (typings ys) in
      let kept : Bool = kept_right types number callees tables g us (typed y.0).types in
      let q = parts_of (typed y.0).right (kept && rest) d in
      let r = parts_of kept rest q.1 in
      var_right types ss callees m f n name g pl tables all us text (code y.0) (block_piece types K_ number callees tables k qs (pieces ys)) (typed y.0).types
      (block_types types number callees tables g qs (typings ys)) (y.1 q.0).1 r.0 (block_mine k qs ys r.1)

  block_said : (k : ℕ) (qs : List Statement) (ys : List Known) → block_right types number callees tables g qs (typings ys) ≡ true
      → (block_piece types K_ number callees tables k qs (pieces ys)).ends ≡ block_ends types number callees tables g qs (typings ys)
  unfolding Mine
  block_said k [] [] d = refl
  block_said k [] (y ∷ []) d = (y.1 d).0
  block_said k [] (y ∷ x ∷ ys) d = no_way d
  block_said k (S.Evaluate ∷ qs) [] d = no_way d
  block_said k (S.Declare text written ∷ qs) [] d = no_way d
  block_said k (S.Define place arm ∷ qs) [] d = no_way d
  block_said k (S.Define place arm ∷ qs) (y ∷ ys) d =
      let rest : Bool = block_right types number callees tables g qs (typings ys) in
      let e : Bool = ends_right types number callees tables g arm (typed y.0).ends in
      block_said k qs ys (parts_of e rest (parts_of (typed y.0).right (e && rest) d).1).1
  block_said k (S.Evaluate ∷ qs) (y ∷ ys) d =
      block_said k qs ys (parts_of (typed y.0).right (block_right types number callees tables g qs (typings ys)) d).1
  block_said k (S.Declare text written ∷ qs) (y ∷ ys) d =
      let rest : Bool = block_right types number callees tables g qs (typings ys) in
      let kept : Bool = kept_right types number callees tables g (tables.reads text) (typed y.0).types in
      block_said k qs ys (parts_of kept rest (parts_of (typed y.0).right (kept && rest) d).1).1

  -- ---- forms with control

  inside_mine : (y : Known) → (typed y.0).right ≡ true → Piece_ (inside_piece K_ (code y.0)) (typed y.0).types
  unfolding Mine
  inside_mine y r = inside_right types ss callees m f n name g pl tables all (code y.0) (typed y.0).types (y.1 r).1

  if_mine : (k : ℕ) (y1 y2 y3 : Known)
      → ((typed y1.0).right && ((typed y2.0).right && ((typed y3.0).right
      && meet_right types number callees tables g ((typed y2.0).types ++ (typed y3.0).types) (tables.cases k 1)))) ≡ true
      → Piece_ (meet_piece K_ number (tables.cases k 1) (tables.gives k)
      (if_piece K_ (code y1.0) (inside_piece K_ (code y2.0)) (inside_piece K_ (code y3.0)))) (gives_in (tables.cases k 1))
  unfolding Mine
  if_mine k y1 y2 y3 d =
      let us : List Sized = (typed y2.0).types ++ (typed y3.0).types in
      let b : Bool = meet_right types number callees tables g us (tables.cases k 1) in
      let q = parts_of (typed y1.0).right ((typed y2.0).right && ((typed y3.0).right && b)) d in
      let r = parts_of (typed y2.0).right ((typed y3.0).right && b) q.1 in
      let w = parts_of (typed y3.0).right b r.1 in
      let p : Piece = if_piece K_ (code y1.0) (inside_piece K_ (code y2.0)) (inside_piece K_ (code y3.0)) in
      meet_is_right types ss callees m f n name g pl tables all (tables.cases k 1) (tables.gives k) p us
      (if_right types ss callees m f n name g pl tables all (code y1.0) (inside_piece K_ (code y2.0)) (inside_piece K_ (code y3.0)) (typed y1.0).types
      (typed y2.0).types (typed y3.0).types (y1.1 q.0).1 (inside_mine y2 r.0) (inside_mine y3 w.0)) w.1

  match_mine : (place : TextPlace) (k : ℕ) (arms : List Arm) (y : Known) (ys : List Known)
      → ((typed y.0).right && (arms_right types number callees tables g (in_hand (typed y.0).ends) arms (typings ys)
      && meet_right types number callees tables g (arms_types types number callees tables g (typings ys)) (tables.cases k 1))) ≡ true
      → Piece_ (meet_piece K_ number (tables.cases k 1) (tables.gives k)
      (match_piece types K_ (tables.named k) (code y.0) arms (pieces ys) (MatchFailure place))) (gives_in (tables.cases k 1))
  unfolding Mine
  match_mine place k arms y ys d =
      let us : List Sized = arms_types types number callees tables g (typings ys) in
      let a : Bool = arms_right types number callees tables g (in_hand (typed y.0).ends) arms (typings ys) in
      let b : Bool = meet_right types number callees tables g us (tables.cases k 1) in
      let q = parts_of (typed y.0).right (a && b) d in
      let r = parts_of a b q.1 in
      let p : Piece = match_piece types K_ (tables.named k) (code y.0) arms (pieces ys) (MatchFailure place) in
      meet_is_right types ss callees m f n name g pl tables all (tables.cases k 1) (tables.gives k) p us
      (match_right types ss callees m f n name g pl tables all (tables.named k) (code y.0) (typed y.0).types arms (pieces ys) (typings ys)
      (MatchFailure place) refl
      (y.1 q.0).1 (all_mine ys)
      (ap (λ es. arms_right types number callees tables g (in_hand es) arms (typings ys)) (y.1 q.0).0 ∙ r.0)) r.1

  try_mine : (k : ℕ) (arms : List Arm) (y : Known) (ys : List Known)
      → ((typed y.0).right && (cases_right types number callees tables g (is_sourced types number callees tables g (Some g.exception)) (tables.cases k 0)
      && (all_thrown types number callees tables g (ends_of (tables.gives k) (tables.cases k 0))
      && (arms_right types number callees tables g (in_hand (ends_of (tables.gives k) (tables.cases k 0))) arms (typings ys)
      && meet_right types number callees tables g ((typed y.0).types ++ arms_types types number callees tables g (typings ys)) (tables.cases k 1))))) ≡ true
      → Piece_ (meet_piece K_ number (tables.cases k 1) (tables.gives k)
      (try_piece types K_ (tables.cases k 0) (tables.gives k) (tables.named k) arms (pieces ys) (code y.0))) (gives_in (tables.cases k 1))
  unfolding Mine
  try_mine k arms y ys d =
      let es : List End = ends_of (tables.gives k) (tables.cases k 0) in
      let us : List Sized = (typed y.0).types ++ arms_types types number callees tables g (typings ys) in
      let a1 : Bool = cases_right types number callees tables g (is_sourced types number callees tables g (Some g.exception)) (tables.cases k 0) in
      let a2 : Bool = all_thrown types number callees tables g es in
      let a3 : Bool = arms_right types number callees tables g (in_hand es) arms (typings ys) in
      let a4 : Bool = meet_right types number callees tables g us (tables.cases k 1) in
      let q = parts_of (typed y.0).right (a1 && (a2 && (a3 && a4))) d in
      let r = parts_of a1 (a2 && (a3 && a4)) q.1 in
      let v = parts_of a2 (a3 && a4) r.1 in
      let w = parts_of a3 a4 v.1 in
      let p : Piece = try_piece types K_ (tables.cases k 0) (tables.gives k) (tables.named k) arms (pieces ys) (code y.0) in
      meet_is_right types ss callees m f n name g pl tables all (tables.cases k 1) (tables.gives k) p us
      (try_right types ss callees m f n name g pl tables all (tables.cases k 0) (tables.gives k) (tables.named k) arms (pieces ys) (typings ys) (code y.0)
      (typed y.0).types (y.1 q.0).1 (all_mine ys) r.0 v.0 w.0) w.1

  -- ---- the type that all bodies end with

  all_of_arms : (x : Matched) (arms : List Arm) (ts : List Typing) → arms_right types number callees tables g x arms ts ≡ true → all_right ts ≡ true
  all_of_arms x [] [] d = refl
  all_of_arms x [] (t ∷ ts) d = no_way d
  all_of_arms x (arm ∷ arms) [] d = no_way d
  all_of_arms x (arm ∷ arms) (t ∷ ts) d =
      let rest : Bool = arms_right types number callees tables g x arms ts in
      let q = parts_of (matched_right types number callees tables g x arm) (t.right && rest) d in
      let r = parts_of t.right rest q.1 in
      both t.right (all_right ts) r.0 (all_of_arms x arms ts r.1)

  ends_same : (t : Sized) (ys : List Known) → all_right (typings ys) ≡ true
      → all_end t (pieces ys) ≡ all_ending types number callees tables g t (typings ys)
  unfolding Mine
  ends_same t [] d = refl
  ends_same t (y ∷ ys) d =
      let q = parts_of (typed y.0).right (all_right (typings ys)) d in
      let e : (code y.0).ends ≡ (typed y.0).ends = (y.1 q.0).0 in
      let r = ends_same t ys q.1 in
      λ j. ends_with t (fixed_end (e j)) && r j

  common_if : (o : Option Sized) (ys : List Known) → all_right (typings ys) ≡ true
      → ends_if o (pieces ys) ≡ ending_if types number callees tables g o (typings ys)
  common_if None ys d = refl
  common_if (Some t) ys d = ap (λ b. if b then one_end t else []) (ends_same t ys d)

  common_same : (ys : List Known) → all_right (typings ys) ≡ true → common_ends (pieces ys) ≡ common_of types number callees tables g (typings ys)
  unfolding Mine
  common_same [] d = refl
  common_same (y ∷ ys) d =
      let q = parts_of (typed y.0).right (all_right (typings ys)) d in
      ap (λ es. ends_if (fixed_end es) (pieces ys)) (y.1 q.0).0 ∙ common_if (fixed_end (typed y.0).ends) ys q.1

  applied_free : (t : Typing) (x : ℕ) (cases : List Case) → applies_right types number callees tables g x (callees.direction x) cases t ≡ true
      → f.is_pure ≡ false
  applied_free t x cases d =
      free_from
      (g.directions x && (t.right && (moves_to types number callees tables g (only_end t.ends) (callees.direction x).takes
      && (same (payload_typ (shell g) (Some (number (callees.direction x).gives)) 0) (Some (number (callees.direction x).payload))
      && cases_right types number callees tables g (λ c. comes g (number (callees.direction x).payload) (number c.gives)) cases)))) d

  -- ---- nodes

  kind_mine : (place : TextPlace) (k : ℕ) (kind : Kind) (ys : List Known) → kind_right types number callees tables g k kind (typings ys) ≡ true
      → Good (kind_piece types K_ number callees tables place k kind (pieces ys)) (kind_ends types number callees tables g k kind (typings ys))
      (kind_types types number callees tables g k kind (typings ys))
  unfolding Mine
  kind_mine place k (K.Constant literal) [] d =
      (refl, constant_right types ss callees m f n name g pl tables all (fixed_typ types (literal_typ literal)) (constant_of literal) d)
  kind_mine place k (K.Local text) [] d =
      made_mine k 1 (is_cast types number callees tables g) (local_make K_ number text) (local_makes types ss callees m f n name g pl tables all text) d
  kind_mine place k (K.Variable text) [] d = variable_mine k text (tables.reads text) d
  kind_mine place k (K.TopLevel i) [] d = let_mine k (callees.opening i) d
  kind_mine place k (K.Register r) [] d = register_mine k r d
  kind_mine place k (K.Call (F.Function x)) ys d = called place k ys d
  kind_mine place k (K.Call (F.Row row)) ys d = row_mine (has_state row) k row ys refl d
  kind_mine place k (K.Call (F.Constructor u c)) ys d = constructed_ k u c ys d
  kind_mine place k K.Tuple ys d = in_order_worked k O.Build refl ys d
  kind_mine place k (K.Vector shape) ys d = worked k O.Build reverse reverse (reverse_fits types ss callees m f n name g pl) (λ e. refl) ys d
  kind_mine place k (K.List shape) ys d = in_order_worked k O.Build refl ys d
  kind_mine place k (K.Cons shape) ys d = in_order_worked k O.Cons refl ys d
  kind_mine place k (K.Struct struct fields) ys d =
      worked k O.Build (in_fields (unit_source K_) fields) (in_fields (unit_source K_) fields) (fields_fit types ss callees m f n name g pl fields)
      (λ e. refl) ys d
  kind_mine place k (K.With struct (i ∷ [])) ys d = in_order_worked k (O.WithField i) refl ys d
  kind_mine place k (K.With struct (i ∷ j ∷ is)) ys d =
      let cases : List Case = tables.cases k (length (typings ys)) in
      let p : Case → Bool = is_changed types number callees tables g (i ∷ j ∷ is) in
      let q = parts_of (all_right (typings ys)) (cases_right types number callees tables g p cases) d in
      counted k ys (λ cs. made_of_piece K_ number (with_make K_ number types (i ∷ j ∷ is)) cs (tables.gives k) (pieces ys)) (
        refl,
        made_of_right types ss callees m f n name g pl tables all p (with_make K_ number types (i ∷ j ∷ is))
            (with_makes types ss callees m f n name g pl tables all (i ∷ j ∷ is)) cases q.1 (tables.gives k) (pieces ys) (helds ys q.0),
      )
  kind_mine place k (K.Part suffixes) (y ∷ ys) d =
      let q = parts_of (typed y.0).right (path_right types number callees tables g suffixes (typings ys)) d in (
        path_said K_ number tables suffixes (pieces ys) (code y.0)
            ∙ (λ j. path_ends tables suffixes (sym (many_same ys) j) ((y.1 q.0).0 j)),
        path_is_right types ss callees m f n name g pl tables all suffixes (pieces ys) (typings ys) (code y.0) (typed y.0).types (all_mine ys) q.1 (y.1 q.0).1,
      )
  kind_mine place k K.WithItem (y1 ∷ y2 ∷ y3 ∷ []) d = (refl, (in_order_worked k O.WithItem refl (y1 ∷ y2 ∷ y3 ∷ []) d).1)
  kind_mine place k K.WithSlice (y1 ∷ y2 ∷ y3 ∷ y4 ∷ []) d = (refl, (in_order_worked k O.WithSlice refl (y1 ∷ y2 ∷ y3 ∷ y4 ∷ []) d).1)
  kind_mine place k (K.Cast written) (y ∷ []) d =
      let q = parts_of (typed y.0).right (cases_right types number callees tables g (is_recast types number callees tables g) (tables.cases k 1)) d in
      (refl, cast_right types ss callees m f n name g pl tables all (tables.cases k 1) q.1 (tables.gives k) (code y.0) (typed y.0).types (y.1 q.0).1)
  kind_mine place k (K.SizeOf t numbers) [] d = number_mine (callees.size t) d
  kind_mine place k (K.Constraint c numbers) [] d = truth_mine (callees.truth c) d
  kind_mine place k (K.Assign (t ∷ [])) ys d =
      let b : Bool = write_right types number callees tables g (target_spot t) (typings ys) in (
        refl,
        write_is_right types ss callees m f n name g pl tables all (target_spot t) (pieces ys) (typings ys) (many_same ys) (free_from b d) (all_mine ys)
            (parts_of (not g.is_pure) b d).1,
      )
  kind_mine place k (K.Block statements) ys d = (block_said k statements ys d, block_mine k statements ys d)
  kind_mine place k (K.Var text written) (y1 ∷ y2 ∷ []) d =
      let us : List Sized = tables.reads text in
      let kept : Bool = kept_right types number callees tables g us (typed y1.0).types in
      let q = parts_of (typed y1.0).right (kept && (typed y2.0).right) d in
      let r = parts_of kept (typed y2.0).right q.1 in (
        (y2.1 r.1).0,
        var_right types ss callees m f n name g pl tables all us text (code y1.0) (code y2.0) (typed y1.0).types (typed y2.0).types (y1.1 q.0).1 r.0
            (y2.1 r.1).1,
      )
  kind_mine place k (K.If shape) (y1 ∷ y2 ∷ []) d =
      let q = parts_of (typed y1.0).right (typed y2.0).right d in (
        refl,
        if_right types ss callees m f n name g pl tables all (code y1.0) (inside_piece K_ (code y2.0)) (unit_piece K_) (typed y1.0).types (typed y2.0).types
            (fixed_typ types Y.Unit ∷ []) (y1.1 q.0).1 (inside_mine y2 q.1) (unit_right types ss callees m f n name g pl tables all),
      )
  kind_mine place k (K.If shape) (y1 ∷ y2 ∷ y3 ∷ []) d = (refl, if_mine k y1 y2 y3 d)
  kind_mine place k K.While (y1 ∷ y2 ∷ y3 ∷ []) d =
      let b : Bool = (typed y1.0).right && ((typed y2.0).right && (typed y3.0).right) in
      let q = parts_of (not g.is_pure) b d in
      let r = parts_of (typed y1.0).right ((typed y2.0).right && (typed y3.0).right) q.1 in
      let w = parts_of (typed y2.0).right (typed y3.0).right r.1 in (
        refl,
        while_right types ss callees m f n name g pl tables all place (inside_piece K_ (code y1.0)) (inside_piece K_ (code y2.0)) (inside_piece K_ (code y3.0))
            (typed y1.0).types (typed y2.0).types (typed y3.0).types (free_from b d) (inside_mine y1 r.0) (inside_mine y2 w.0) (inside_mine y3 w.1),
      )
  kind_mine place k K.Repeat (y1 ∷ y2 ∷ y3 ∷ []) d =
      let b : Bool = (typed y1.0).right && ((typed y2.0).right && (typed y3.0).right) in
      let q = parts_of (not g.is_pure) b d in
      let r = parts_of (typed y1.0).right ((typed y2.0).right && (typed y3.0).right) q.1 in
      let w = parts_of (typed y2.0).right (typed y3.0).right r.1 in (
        refl,
        repeat_right types ss callees m f n name g pl tables all place (inside_piece K_ (code y1.0)) (inside_piece K_ (code y2.0)) (inside_piece K_ (code y3.0))
            (typed y1.0).types (typed y2.0).types (typed y3.0).types (free_from b d) (inside_mine y1 r.0) (inside_mine y2 w.0) (inside_mine y3 w.1),
      )
  kind_mine place k (K.Foreach text way) (y1 ∷ y2 ∷ y3 ∷ y4 ∷ []) d =
      let b : Bool = all_right (typings (y1 ∷ y2 ∷ y3 ∷ y4 ∷ [])) in
      let q = parts_of (not g.is_pure) b d in
      let r1 = parts_of (typed y1.0).right (all_right (typings (y2 ∷ y3 ∷ y4 ∷ []))) q.1 in
      let r2 = parts_of (typed y2.0).right (all_right (typings (y3 ∷ y4 ∷ []))) r1.1 in
      let r3 = parts_of (typed y3.0).right (all_right (typings (y4 ∷ []))) r2.1 in
      let r4 = parts_of (typed y4.0).right true r3.1 in (
        refl,
        foreach_right types ss callees m f n name g pl tables all text way (code y1.0) (code y2.0) (code y3.0) (inside_piece K_ (code y4.0)) (typed y1.0).types
            (typed y2.0).types (typed y3.0).types (typed y4.0).types (free_from b d) (y1.1 r1.0).1 (y2.1 r2.0).1 (y3.1 r3.0).1 (inside_mine y4 r4.0),
      )
  kind_mine place k K.Throw (y ∷ []) d =
      let q = parts_of (typed y.0).right (are_of types number callees tables g g.exception (typed y.0).types) d in
      (refl, throw_right types ss callees m f n name g pl tables all (code y.0) (typed y.0).types (y.1 q.0).1 q.1)
  kind_mine place k K.Return (y ∷ []) d =
      let q = parts_of (typed y.0).right (are_of types number callees tables g g.result (typed y.0).types) d in
      (refl, return_right types ss callees m f n name g pl tables all (code y.0) (typed y.0).types (y.1 q.0).1 q.1)
  kind_mine place k K.Exit (y ∷ []) d =
      (refl, stop_right types ss callees m f n name g pl tables all (Exit place) refl (code y.0) (typed y.0).types (y.1 d).1)
  kind_mine place k (K.Assert text) (y ∷ []) d =
      (refl, assert_right types ss callees m f n name g pl tables all (Assertion place text) refl (code y.0) (typed y.0).types (y.1 d).1)
  kind_mine place k K.And (y1 ∷ y2 ∷ []) d =
      let q = parts_of (typed y1.0).right (typed y2.0).right d in (
        refl,
        and_right types ss callees m f n name g pl tables all (code y1.0) (inside_piece K_ (code y2.0)) (typed y1.0).types (typed y2.0).types (y1.1 q.0).1
            (inside_mine y2 q.1),
      )
  kind_mine place k K.Or (y1 ∷ y2 ∷ []) d =
      let q = parts_of (typed y1.0).right (typed y2.0).right d in (
        refl,
        or_right types ss callees m f n name g pl tables all (code y1.0) (inside_piece K_ (code y2.0)) (typed y1.0).types (typed y2.0).types (y1.1 q.0).1
            (inside_mine y2 q.1),
      )
  kind_mine place k K.When (y1 ∷ y2 ∷ []) d =
      let q = parts_of (typed y1.0).right (typed y2.0).right d in
      ((y2.1 q.1).0, when_right types ss callees m f n name g pl tables all (code y1.0) (code y2.0) (typed y1.0).types (typed y2.0).types (y1.1 q.0).1 (y2.1 q.1).1)
  kind_mine place k (K.Let arm) (y1 ∷ y2 ∷ []) d =
      let e : Bool = ends_right types number callees tables g arm (typed y1.0).ends in
      let q = parts_of (typed y1.0).right (e && (typed y2.0).right) d in
      let r = parts_of e (typed y2.0).right q.1 in
      ((y2.1 r.1).0, let_is_mine (tables.named k 0) y1 arm (code y2.0) (typed y2.0).types place q.0 r.0 (y2.1 r.1).1)
  kind_mine place k (K.Match arms shape) (y ∷ ys) d = (refl, match_mine place k arms y ys d)
  kind_mine place k (K.Try arms shape) (y ∷ ys) d = (refl, try_mine k arms y ys d)
  kind_mine place k (K.Call (F.Applies x)) (y ∷ []) d = (
    refl,
    applied_right types ss callees m f n name g pl tables all place x (tables.cases k 1) (tables.gives k) (code y.0) (typed y.0) y.1
        (applied_free (typed y.0) x (tables.cases k 1) d) d,
  )
  kind_mine place k (K.Optional t) (y ∷ []) d = (
    refl,
    optional_is_right types ss callees m f n name g pl tables all (fixed_typ types (option_typ t)) (fixed_typ types t) (code y.0) (typed y.0) y.1 d,
  )
  kind_mine place k (K.Clauses arms) ys d = (
    common_same ys (all_of_arms (arguments callees.given) arms (typings ys) d),
    first_right types ss callees m f n name g pl tables all (tables.named k) (arguments callees.given) arms (pieces ys) (typings ys) (fall_piece types K_)
        (all_mine ys) d (fall_right m f n types K_),
  )
  kind_mine place k kind ys d = no_way d

  node_mine : (y : Core-F Known) → Mine (roll-Core (map-Core Known Core (λ q. q.0) y))
  unfolding Mine
  node_mine y =
      subst (λ (p : Typing). p.right ≡ true → Good (code (roll-Core (map-Core Known Core (λ q. q.0) y))) p.ends p.types)
      (sym (fold-roll-Core Typing (λ c. record {
        types = kind_types types number callees tables g c.number c.kind c.parts;
        ends = kind_ends types number callees tables g c.number c.kind c.parts;
        right = kind_right types number callees tables g c.number c.kind c.parts;
      }) (map-Core Known Core (λ q. q.0) y)))
      (λ d. subst (λ (k : Node). Good k.piece (kind_ends types number callees tables g y.number y.kind (typings y.parts))
      (kind_types types number callees tables g y.number y.kind (typings y.parts)))
      (sym (fold-roll-Core Node (λ c. record {
        piece = kind_piece types K_ number callees tables c.place c.number c.kind (pieces_of c.parts);
        ok = kind_lowered types callees tables c.number c.kind c.parts;
      }) (map-Core Known Core (λ q. q.0) y)))
      (kind_mine y.place y.number y.kind y.parts d))

  all_nodes : (c : Core) → Mine c
  all_nodes = ind-Core Mine (λ c y is_. subst (λ d. Mine (roll-Core d)) is_ (node_mine y))

  pub node_is_right : (c : Core) → (typed c).right ≡ true → Good (code c) (typed c).ends (typed c).types
  unfolding Mine
  node_is_right c = all_nodes c
