-- Forms whose operands are counted: a value that is made of parts, and a call.
use Rattle.std.proofs.Common.{◌≡◌, ◌∙◌, ◌≤◌, ℕ, Bool, true, false, ◌&&◌, None, Some, List, [], ◌∷◌, length, refl, sym, ap, arith}
use Rattle.std.proofs.lemmas.Bool.{and_from, and_parts, false≢true}
use Rattle.sail_base.specs.declared.place.Place.{Place as TextPlace}
use Rattle.sail_types.specs.declared.rows.Row.{Row}
use Rattle.sail_types.specs.declared.table.Types.{Types}
use Rattle.row_types.specs.Calls.{has_state}
use Rattle.sail_core.specs.declared.tree.Callee.TheVariants as F
use Rattle.sail_core.specs.declared.tree.Core.{Core, out-Core}
use Rattle.sail_core.specs.declared.tree.Kind.TheVariants as K
use Rattle.size_values.specs.declared.sized.Sized.{Sized}
use Rattle.jib.specs.declared.code.Operation.TheVariants as O
use Rattle.lowered_pieces.specs.Fields.{with_make}
use Rattle.lowered_pieces.specs.Forms.{Callees, Piece, in_order, made_of_piece, work_piece}
use Rattle.lowered_pieces.specs.Gathered.{all_one, is_one}
use Rattle.lowered_pieces.specs.Lowering.{Node, all_lowered, kind_lowered, kind_piece, pieces_of, row_lowered, row_piece}
use Rattle.lowered_pieces.specs.Places.{Kit, Naming}
use Rattle.lowered_pieces.specs.Tables.{Tables, leads_to}
use Rattle.lowered_steps.specs.declared.making.Making.{Making}
use Rattle.lowered_steps.specs.declared.making.Making.TheVariants as M
use Rattle.lowered_steps.specs.declared.making.Order.TheVariants as W
use Rattle.lowered_steps.specs.Setting.{kit_for, number_for, tables_for}
use Rattle.lowered_nodes.specs.declared.walk.Walk.{Walk}
use Rattle.lowered_ends.specs.Around.{callees_of}
use Rattle.lowered_nodes.specs.Walk.{as_for, call_for, counted_call, counted_made, counted_state, made_for, only_of, pieces_for, state_for}
use Rattle.lowered_nodes.proofs.Counting.{many_pieces}

none_some : {A : Type 0} {i : ℕ} → None ≡ Some i → A
none_some e = cc

some_same : (j i : ℕ) → Some j ≡ Some i → j ≡ i
some_same j i e = cc

-- ---- as many operands as parts

module _ (walk : Walk) (name : Naming) (c : Core) where
  pub made_is : (making : Making) → made_for walk name making c ≡ counted_made walk name making c (length (pieces_for walk name (out-Core c).parts))
  made_is making = ap (λ n. counted_made walk name making c n) (many_pieces walk name (out-Core c).parts)

  pub call_is : (f : ℕ) → call_for walk name c ≡ as_for walk name (K.Call (F.Function f)) c
  call_is f = ap (λ n. counted_call walk name c n) (many_pieces walk name (out-Core c).parts)

  pub state_is : (row : Row) → has_state row ≡ true → state_for walk name row c ≡ as_for walk name (K.Call (F.Row row)) c
  state_is row is = ap (λ n. counted_state walk name row c n) (many_pieces walk name (out-Core c).parts) ∙ ap by_state (sym is)
    where
      by_state : Bool → Piece
      by_state b =
          row_piece walk.setting.now.types.now (kit_for walk.setting.now name) (number_for walk.setting.now) (callees_of walk.setting.now walk.around.now)
          (tables_for walk.setting.now walk.around.now.instances.now) b (out-Core c).number row (pieces_for walk name (out-Core c).parts)

  pub work_is : (row : Row) → has_state row ≡ false
      → counted_made walk name (M.Works (O.Builtin row) W.Forwards) c (length (pieces_for walk name (out-Core c).parts))
      ≡ as_for walk name (K.Call (F.Row row)) c
  work_is row is = ap by_state (sym is)
    where
      by_state : Bool → Piece
      by_state b =
          row_piece walk.setting.now.types.now (kit_for walk.setting.now name) (number_for walk.setting.now) (callees_of walk.setting.now walk.around.now)
          (tables_for walk.setting.now walk.around.now.instances.now) b (out-Core c).number row (pieces_for walk name (out-Core c).parts)

-- ---- forms of so many operands

module _ (types : Types) (kit : Kit) (number : Sized → ℕ) (callees : Callees) (tables : Tables) (place : TextPlace) (k : ℕ) where
  pub item_form : (ps : List Piece) → length ps ≡ 3
      → work_piece kit number O.WithItem in_order (tables.cases k (length ps)) (tables.gives k) ps
      ≡ kind_piece types kit number callees tables place k K.WithItem ps
  item_form [] three = absurd (omega (arith, three))
  item_form (a ∷ []) three = absurd (omega (arith, three))
  item_form (a ∷ b ∷ []) three = absurd (omega (arith, three))
  item_form (a ∷ b ∷ c ∷ []) three = refl
  item_form (a ∷ b ∷ c ∷ d ∷ ps) three = absurd (omega (arith, three))

  pub slice_form : (ps : List Piece) → length ps ≡ 4
      → work_piece kit number O.WithSlice in_order (tables.cases k (length ps)) (tables.gives k) ps
      ≡ kind_piece types kit number callees tables place k K.WithSlice ps
  slice_form [] four = absurd (omega (arith, four))
  slice_form (a ∷ []) four = absurd (omega (arith, four))
  slice_form (a ∷ b ∷ []) four = absurd (omega (arith, four))
  slice_form (a ∷ b ∷ c ∷ []) four = absurd (omega (arith, four))
  slice_form (a ∷ b ∷ c ∷ d ∷ []) four = refl
  slice_form (a ∷ b ∷ c ∷ d ∷ e ∷ ps) four = absurd (omega (arith, four))

  pub with_form : (is : List ℕ) → 2 ≤ length is → (ps : List Piece)
      → made_of_piece kit number (with_make kit number types is) (tables.cases k (length ps)) (tables.gives k) ps
      ≡ kind_piece types kit number callees tables place k (K.With 0 is) ps
  with_form [] some ps = absurd (omega arith)
  with_form (i ∷ []) some ps = absurd (omega arith)
  with_form (i ∷ j ∷ is) some ps = refl

-- the only field of a struct with other fields, or several
pub only_is : (is : List ℕ) (i : ℕ) → only_of is ≡ Some i → is ≡ i ∷ []
only_is [] i e = none_some e
only_is (j ∷ []) i e = ap (λ k. k ∷ []) (some_same j i e)
only_is (j ∷ k ∷ is) i e = none_some e

pub several : (is : List ℕ) → 1 ≤ length is → only_of is ≡ None → 2 ≤ length is
several [] some e = absurd (omega arith)
several (i ∷ []) some e = none_some (sym e)
several (i ∷ j ∷ is) some e = omega arith

-- ---- all parts are lowered

ended : (b : Bool) → b ≡ true → (b && true) ≡ true
ended b is = and_from b true is refl

module _ (types : Types) (callees : Callees) (tables : Tables) (k : ℕ) where
  pub item_all : (ns : List Node) → kind_lowered types callees tables k K.WithItem ns ≡ true → all_lowered ns ≡ true
  item_all [] h = absurd (false≢true h)
  item_all (a ∷ []) h = absurd (false≢true h)
  item_all (a ∷ b ∷ []) h = absurd (false≢true h)
  item_all (a ∷ b ∷ c ∷ []) h =
      let one = and_parts a.ok (b.ok && c.ok) h in
      let two = and_parts b.ok c.ok one.1 in
      and_from a.ok (b.ok && (c.ok && true)) one.0 (and_from b.ok (c.ok && true) two.0 (ended c.ok two.1))
  item_all (a ∷ b ∷ c ∷ d ∷ ns) h = absurd (false≢true h)

  pub slice_all : (ns : List Node) → kind_lowered types callees tables k K.WithSlice ns ≡ true → all_lowered ns ≡ true
  slice_all [] h = absurd (false≢true h)
  slice_all (a ∷ []) h = absurd (false≢true h)
  slice_all (a ∷ b ∷ []) h = absurd (false≢true h)
  slice_all (a ∷ b ∷ c ∷ []) h = absurd (false≢true h)
  slice_all (a ∷ b ∷ c ∷ d ∷ []) h =
      let one = and_parts a.ok (b.ok && (c.ok && d.ok)) h in
      let two = and_parts b.ok (c.ok && d.ok) one.1 in
      let three = and_parts c.ok d.ok two.1 in
      and_from a.ok (b.ok && (c.ok && (d.ok && true))) one.0
      (and_from b.ok (c.ok && (d.ok && true)) two.0 (and_from c.ok (d.ok && true) three.0 (ended d.ok three.1)))
  slice_all (a ∷ b ∷ c ∷ d ∷ e ∷ ns) h = absurd (false≢true h)

  pub with_all : (is : List ℕ) (ns : List Node) → kind_lowered types callees tables k (K.With 0 is) ns ≡ true → all_lowered ns ≡ true
  with_all [] ns h = absurd (false≢true h)
  with_all (i ∷ is) ns h = h

  pub with_some : (is : List ℕ) (ns : List Node) → kind_lowered types callees tables k (K.With 0 is) ns ≡ true → 1 ≤ length is
  with_some [] ns h = absurd (false≢true h)
  with_some (i ∷ is) ns h = omega arith

  pub call_all : (f : ℕ) (ns : List Node) → kind_lowered types callees tables k (K.Call (F.Function f)) ns ≡ true → all_lowered ns ≡ true
  call_all f ns h = (and_parts (leads_to tables.of f (tables.leads k)) (all_lowered ns) h).1

  pub row_all : (row : Row) (ns : List Node) → kind_lowered types callees tables k (K.Call (F.Row row)) ns ≡ true → all_lowered ns ≡ true
  row_all row ns h = either (has_state row) h
    where
      either : (b : Bool) → row_lowered b (tables.cases k (length ns)) ns ≡ true → all_lowered ns ≡ true
      either true g =
          let both = (and_parts (is_one (tables.cases k (length ns))) (all_one (pieces_of ns) && all_lowered ns) g).1 in
          (and_parts (all_one (pieces_of ns)) (all_lowered ns) both).1
      either false g = g
