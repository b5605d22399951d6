-- What is said of a value is what its code goes by.
use Rattle.std.proofs.Common.{◌≡◌, ◌∙◌, ℕ, ℤ, suc, Bool, true, false, List, [], ◌∷◌, length, map, Option, Some, None, refl, sym, ap, subst}
use Rattle.std.specs.Prelude.{◌&&◌, if◌then◌else◌}
use Rattle.sail_base.specs.declared.place.Place.{Place as TextPlace}
use Rattle.sail_types.specs.declared.rows.Row.{Row}
use Rattle.sail_core.specs.declared.tree.Callee.TheVariants as F
use Rattle.sail_core.specs.declared.tree.Core.{Core, Core-F, fold-roll-Core, ind-Core, map-Core, roll-Core}
use Rattle.sail_core.specs.declared.tree.Kind.{Kind}
use Rattle.sail_core.specs.declared.tree.Kind.TheVariants as K
use Rattle.sail_core.specs.declared.tree.Statement.{Statement}
use Rattle.sail_core.specs.declared.tree.Statement.TheVariants as X
use Rattle.row_types.specs.Calls.{has_state}
use Rattle.size_values.specs.declared.sized.Sized.{Sized}
use Rattle.sized_nodes.specs.declared.trees.Case.{Case}
use Rattle.lowered_pieces.specs.Forms.{End, Piece, ends_of, one_end, variable_piece}
use Rattle.lowered_pieces.specs.Gathered.{state_piece}
use Rattle.lowered_pieces.specs.Lowering.{Node, block_piece, kind_lowered, kind_piece, number_piece, pieces_of, row_piece, truth_piece}
use Rattle.lowered_pieces.specs.Mapped.{all_end, common_ends, ends_if, ends_with, fixed_end}
use Rattle.lowered_pieces.specs.Paths.{path_ends}
use Rattle.lowered_pieces.specs.Places.{Kit, Naming}
use Rattle.lowered_pieces.proofs.Pathing.{path_said}
use Rattle.lowered_steps.specs.Setting.{kit_for}
use Rattle.lowered_ends.specs.Around.{node_for, piece_for}
use Rattle.lowered_validity.specs.Typing as typing
use Rattle.lowered_validity.specs.Typing.{Typing}
use Rattle.lowered_typed.specs.declared.signs.Judge.{Judge}
use Rattle.lowered_typed.specs.Judging.{callees_here, number_here, signs_here, tables_here, typed}

module _ (j : Judge) (name : Naming) where
  abbrev kit : Kit
  kit = kit_for j.setting.now name

  abbrev code : Core → Node
  code = node_for j.setting.now j.around.now name

  abbrev made : TextPlace → ℕ → Kind → List Piece → Piece
  made = kind_piece j.setting.now.types.now kit (number_here j) (callees_here j) (tables_here j)

  abbrev said : ℕ → Kind → List Typing → List End
  said = typing.kind_ends j.setting.now.types.now (number_here j) (callees_here j) (tables_here j) (signs_here j)

  Mine : Core → Type 0
  Mine c = (typed j c).ends ≡ (code c).piece.ends

  abbrev Known : Type 0
  Known = (c : Core) × Mine c

  abbrev pieces : List Known → List Piece
  pieces ys = pieces_of (map code (map (λ y. y.0) ys))

  abbrev typings : List Known → List Typing
  typings ys = map (typed j) (map (λ y. y.0) ys)

  many_same : (ys : List Known) → length (typings ys) ≡ length (pieces ys)
  many_same [] = refl
  many_same (y ∷ ys) = ap suc (many_same ys)

  -- cases go by the count of operands
  counted : (k : ℕ) (ys : List Known) (f : List Case → List End)
      → f ((tables_here j).cases k (length (typings ys))) ≡ f ((tables_here j).cases k (length (pieces ys)))
  counted k ys f = ap (λ n. f ((tables_here j).cases k n)) (many_same ys)

  number_same : (o : Option ℤ)
      → typing.number_ends j.setting.now.types.now (number_here j) (callees_here j) (tables_here j) (signs_here j) o
      ≡ (number_piece j.setting.now.types.now kit (number_here j) (callees_here j) (tables_here j) o).ends
  number_same None = refl
  number_same (Some z) = refl

  truth_same : (o : Option Bool)
      → typing.truth_ends j.setting.now.types.now (number_here j) (callees_here j) (tables_here j) (signs_here j) o
      ≡ (truth_piece j.setting.now.types.now kit (number_here j) (callees_here j) (tables_here j) o).ends
  truth_same None = refl
  truth_same (Some b) = refl

  row_same : (b : Bool) (k : ℕ) (row : Row) (ys : List Known)
      → typing.row_ends j.setting.now.types.now (number_here j) (callees_here j) (tables_here j) (signs_here j) b k
      ((tables_here j).cases k (length (typings ys)))
      ≡ (row_piece j.setting.now.types.now kit (number_here j) (callees_here j) (tables_here j) b k row (pieces ys)).ends
  row_same true k row ys = ap (λ n. state_ends ((tables_here j).cases k n)) (many_same ys) ∙ by ((tables_here j).cases k (length (pieces ys)))
    where
      state_ends : List Case → List End
      state_ends = typing.row_ends j.setting.now.types.now (number_here j) (callees_here j) (tables_here j) (signs_here j) true k

      by : (cases : List Case) → state_ends cases ≡ (state_piece kit row cases ((tables_here j).gives k) (pieces ys)).ends
      by [] = refl
      by (c ∷ []) = refl
      by (c ∷ d ∷ cases) = refl
  row_same false k row ys = counted k ys (λ cases. ends_of ((tables_here j).gives k) cases)

  -- the type that all bodies end with
  all_same : (t : Sized) (ys : List Known)
      → typing.all_ending j.setting.now.types.now (number_here j) (callees_here j) (tables_here j) (signs_here j) t (typings ys) ≡ all_end t (pieces ys)
  unfolding Mine
  all_same t [] = refl
  all_same t (y ∷ ys) = λ i. ends_with t (fixed_end (y.1 i)) && all_same t ys i

  if_same : (o : Option Sized) (ys : List Known)
      → typing.ending_if j.setting.now.types.now (number_here j) (callees_here j) (tables_here j) (signs_here j) o (typings ys) ≡ ends_if o (pieces ys)
  if_same None ys = refl
  if_same (Some t) ys = ap (λ b. if b then one_end t else []) (all_same t ys)

  common_same : (ys : List Known)
      → typing.common_of j.setting.now.types.now (number_here j) (callees_here j) (tables_here j) (signs_here j) (typings ys) ≡ common_ends (pieces ys)
  unfolding Mine
  common_same [] = refl
  common_same (y ∷ ys) = if_same (fixed_end (typed j y.0).ends) ys ∙ ap (λ es. ends_if (fixed_end es) (pieces ys)) y.1

  abbrev read_here : List Sized → List ℕ → ℕ → Piece
  read_here us text k = variable_piece kit (number_here j) us text ((tables_here j).cases k 0) ((tables_here j).gives k)

  read_same : (us : List Sized) (text : List ℕ) (k : ℕ)
      → typing.variable_ends j.setting.now.types.now (number_here j) (callees_here j) (tables_here j) (signs_here j) us ((tables_here j).gives k)
      ((tables_here j).cases k 0)
      ≡ (read_here us text k).ends
  read_same [] text k = refl
  read_same (u ∷ us) text k = refl

  said_of : (y : Known) → (typed j y.0).ends ≡ (code y.0).piece.ends
  unfolding Mine
  said_of y = y.1

  block_same : (k : ℕ) (ss : List Statement) (ys : List Known)
      → typing.block_ends j.setting.now.types.now (number_here j) (callees_here j) (tables_here j) (signs_here j) ss (typings ys)
      ≡ (block_piece j.setting.now.types.now kit (number_here j) (callees_here j) (tables_here j) k ss (pieces ys)).ends
  block_same k [] [] = refl
  block_same k [] (y ∷ []) = said_of y
  block_same k [] (y ∷ x ∷ ys) = refl
  block_same k (X.Evaluate ∷ ss) [] = refl
  block_same k (X.Define place arm ∷ ss) [] = refl
  block_same k (X.Declare text written ∷ ss) [] = refl
  block_same k (X.Evaluate ∷ ss) (y ∷ ys) = block_same k ss ys
  block_same k (X.Define place arm ∷ ss) (y ∷ ys) = block_same k ss ys
  block_same k (X.Declare text written ∷ ss) (y ∷ ys) = block_same k ss ys

  kind_same : (place : TextPlace) (k : ℕ) (kind : Kind) (ys : List Known) → said k kind (typings ys) ≡ (made place k kind (pieces ys)).ends
  kind_same place k (K.Constant literal) [] = refl
  kind_same place k (K.Constant literal) (x1 ∷ ys) = refl
  kind_same place k (K.Local text) [] = refl
  kind_same place k (K.Local text) (x1 ∷ ys) = refl
  kind_same place k (K.TopLevel i) [] = refl
  kind_same place k (K.TopLevel i) (x1 ∷ ys) = refl
  kind_same place k (K.Register r) [] = refl
  kind_same place k (K.Register r) (x1 ∷ ys) = refl
  kind_same place k (K.SizeOf t numbers) [] = number_same ((callees_here j).size t)
  kind_same place k (K.SizeOf t numbers) (x1 ∷ ys) = refl
  kind_same place k (K.Constraint con numbers) [] = truth_same ((callees_here j).truth con)
  kind_same place k (K.Constraint con numbers) (x1 ∷ ys) = refl
  kind_same place k (K.Variable text) ys = read_same ((tables_here j).reads text) text k
  kind_same place k (K.Call (F.Function f)) ys = counted k ys (λ cases. ends_of ((tables_here j).gives k) cases)
  kind_same place k (K.Call (F.Row row)) ys = row_same (has_state row) k row ys
  kind_same place k (K.Call (F.Constructor u con)) ys = counted k ys (λ cases. ends_of ((tables_here j).gives k) cases)
  kind_same place k (K.Call (F.Converts d)) ys = refl
  kind_same place k (K.Call (F.Applies d)) [] = refl
  kind_same place k (K.Call (F.Applies d)) (x1 ∷ []) = refl
  kind_same place k (K.Call (F.Applies d)) (x1 ∷ x2 ∷ ys) = refl
  kind_same place k K.Tuple ys = counted k ys (λ cases. ends_of ((tables_here j).gives k) cases)
  kind_same place k (K.Vector shape) ys = counted k ys (λ cases. ends_of ((tables_here j).gives k) cases)
  kind_same place k (K.List shape) ys = counted k ys (λ cases. ends_of ((tables_here j).gives k) cases)
  kind_same place k (K.Cons shape) ys = counted k ys (λ cases. ends_of ((tables_here j).gives k) cases)
  kind_same place k (K.Struct struct fields) ys = counted k ys (λ cases. ends_of ((tables_here j).gives k) cases)
  kind_same place k (K.With struct (i ∷ [])) ys = counted k ys (λ cases. ends_of ((tables_here j).gives k) cases)
  kind_same place k (K.With struct (i ∷ l ∷ is)) ys = counted k ys (λ cases. ends_of ((tables_here j).gives k) cases)
  kind_same place k (K.With struct []) ys = refl
  kind_same place k K.And [] = refl
  kind_same place k K.And (x1 ∷ []) = refl
  kind_same place k K.And (x1 ∷ x2 ∷ []) = refl
  kind_same place k K.And (x1 ∷ x2 ∷ x3 ∷ ys) = refl
  kind_same place k K.Or [] = refl
  kind_same place k K.Or (x1 ∷ []) = refl
  kind_same place k K.Or (x1 ∷ x2 ∷ []) = refl
  kind_same place k K.Or (x1 ∷ x2 ∷ x3 ∷ ys) = refl
  kind_same place k (K.Cast written) [] = refl
  kind_same place k (K.Cast written) (x1 ∷ []) = refl
  kind_same place k (K.Cast written) (x1 ∷ x2 ∷ ys) = refl
  kind_same place k K.WithItem [] = refl
  kind_same place k K.WithItem (x1 ∷ []) = refl
  kind_same place k K.WithItem (x1 ∷ x2 ∷ []) = refl
  kind_same place k K.WithItem (x1 ∷ x2 ∷ x3 ∷ []) = refl
  kind_same place k K.WithItem (x1 ∷ x2 ∷ x3 ∷ x4 ∷ ys) = refl
  kind_same place k K.WithSlice [] = refl
  kind_same place k K.WithSlice (x1 ∷ []) = refl
  kind_same place k K.WithSlice (x1 ∷ x2 ∷ []) = refl
  kind_same place k K.WithSlice (x1 ∷ x2 ∷ x3 ∷ []) = refl
  kind_same place k K.WithSlice (x1 ∷ x2 ∷ x3 ∷ x4 ∷ []) = refl
  kind_same place k K.WithSlice (x1 ∷ x2 ∷ x3 ∷ x4 ∷ x5 ∷ ys) = refl
  kind_same place k (K.Let arm) [] = refl
  kind_same place k (K.Let arm) (x1 ∷ []) = refl
  kind_same place k (K.Let arm) (x1 ∷ x2 ∷ []) = said_of x2
  kind_same place k (K.Let arm) (x1 ∷ x2 ∷ x3 ∷ ys) = refl
  kind_same place k (K.Var text written) [] = refl
  kind_same place k (K.Var text written) (x1 ∷ []) = refl
  kind_same place k (K.Var text written) (x1 ∷ x2 ∷ []) = said_of x2
  kind_same place k (K.Var text written) (x1 ∷ x2 ∷ x3 ∷ ys) = refl
  kind_same place k K.When [] = refl
  kind_same place k K.When (x1 ∷ []) = refl
  kind_same place k K.When (x1 ∷ x2 ∷ []) = said_of x2
  kind_same place k K.When (x1 ∷ x2 ∷ x3 ∷ ys) = refl
  kind_same place k (K.Foreach text way) [] = refl
  kind_same place k (K.Foreach text way) (x1 ∷ []) = refl
  kind_same place k (K.Foreach text way) (x1 ∷ x2 ∷ []) = refl
  kind_same place k (K.Foreach text way) (x1 ∷ x2 ∷ x3 ∷ []) = refl
  kind_same place k (K.Foreach text way) (x1 ∷ x2 ∷ x3 ∷ x4 ∷ []) = refl
  kind_same place k (K.Foreach text way) (x1 ∷ x2 ∷ x3 ∷ x4 ∷ x5 ∷ ys) = refl
  kind_same place k K.While [] = refl
  kind_same place k K.While (x1 ∷ []) = refl
  kind_same place k K.While (x1 ∷ x2 ∷ []) = refl
  kind_same place k K.While (x1 ∷ x2 ∷ x3 ∷ []) = refl
  kind_same place k K.While (x1 ∷ x2 ∷ x3 ∷ x4 ∷ ys) = refl
  kind_same place k K.Repeat [] = refl
  kind_same place k K.Repeat (x1 ∷ []) = refl
  kind_same place k K.Repeat (x1 ∷ x2 ∷ []) = refl
  kind_same place k K.Repeat (x1 ∷ x2 ∷ x3 ∷ []) = refl
  kind_same place k K.Repeat (x1 ∷ x2 ∷ x3 ∷ x4 ∷ ys) = refl
  kind_same place k K.Return [] = refl
  kind_same place k K.Return (x1 ∷ []) = refl
  kind_same place k K.Return (x1 ∷ x2 ∷ ys) = refl
  kind_same place k K.Throw [] = refl
  kind_same place k K.Throw (x1 ∷ []) = refl
  kind_same place k K.Throw (x1 ∷ x2 ∷ ys) = refl
  kind_same place k K.Exit [] = refl
  kind_same place k K.Exit (x1 ∷ []) = refl
  kind_same place k K.Exit (x1 ∷ x2 ∷ ys) = refl
  kind_same place k (K.Assert text) [] = refl
  kind_same place k (K.Assert text) (x1 ∷ []) = refl
  kind_same place k (K.Assert text) (x1 ∷ x2 ∷ ys) = refl
  kind_same place k (K.Optional t) [] = refl
  kind_same place k (K.Optional t) (x1 ∷ []) = refl
  kind_same place k (K.Optional t) (x1 ∷ x2 ∷ ys) = refl
  kind_same place k (K.If shape) [] = refl
  kind_same place k (K.If shape) (x1 ∷ []) = refl
  kind_same place k (K.If shape) (x1 ∷ x2 ∷ []) = refl
  kind_same place k (K.If shape) (x1 ∷ x2 ∷ x3 ∷ []) = refl
  kind_same place k (K.If shape) (x1 ∷ x2 ∷ x3 ∷ x4 ∷ ys) = refl
  kind_same place k (K.Part ss) [] = refl
  kind_same place k (K.Part ss) (y ∷ ys) =
      (λ i. path_ends (tables_here j) ss (many_same ys i) (said_of y i))
      ∙ sym (path_said kit (number_here j) (tables_here j) ss (pieces ys) (code y.0).piece)
  kind_same place k (K.Match arms shape) [] = refl
  kind_same place k (K.Match arms shape) (y ∷ ys) = refl
  kind_same place k (K.Try arms shape) [] = refl
  kind_same place k (K.Try arms shape) (y ∷ ys) = refl
  kind_same place k (K.Assign []) ys = refl
  kind_same place k (K.Assign (t ∷ [])) ys = refl
  kind_same place k (K.Assign (t ∷ u ∷ ts)) ys = refl
  kind_same place k (K.Block statements) ys = block_same k statements ys
  kind_same place k (K.Clauses arms) ys = common_same ys

  node_same : (y : Core-F Known) → Mine (roll-Core (map-Core Known Core (λ q. q.0) y))
  unfolding Mine
  node_same y =
      ap (λ (p : Typing). p.ends) (fold-roll-Core Typing (λ c. record {
        types = typing.kind_types j.setting.now.types.now (number_here j) (callees_here j) (tables_here j) (signs_here j) c.number c.kind c.parts;
        ends = typing.kind_ends j.setting.now.types.now (number_here j) (callees_here j) (tables_here j) (signs_here j) c.number c.kind c.parts;
        right = typing.kind_right j.setting.now.types.now (number_here j) (callees_here j) (tables_here j) (signs_here j) c.number c.kind c.parts;
      }) (map-Core Known Core (λ q. q.0) y))
      ∙ kind_same y.place y.number y.kind y.parts
      ∙ sym (ap (λ (n : Node). n.piece.ends) (fold-roll-Core Node (λ c. record {
        piece = kind_piece j.setting.now.types.now kit (number_here j) (callees_here j) (tables_here j) c.place c.number c.kind (pieces_of c.parts);
        ok = kind_lowered j.setting.now.types.now (callees_here j) (tables_here j) c.number c.kind c.parts;
      }) (map-Core Known Core (λ q. q.0) y)))

  all_nodes : (c : Core) → Mine c
  all_nodes = ind-Core Mine (λ c y is_. subst (λ d. Mine (roll-Core d)) is_ (node_same y))

  pub ends_same : (c : Core) → (typed j c).ends ≡ (piece_for j.setting.now j.around.now name c).ends
  unfolding Mine
  ends_same c = all_nodes c
