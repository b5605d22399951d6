-- The types that are said of the value of a node's code are those by which it is decided that the code has its types.
use Rattle.std.proofs.Common.{◌≡◌, ◌∙◌, ℕ, suc, ℤ, Bool, true, false, ◌&&◌, List, [], ◌∷◌, length, map, Option, Some, None, refl, sym, ap, subst}
use Rattle.std.specs.Prelude.{if◌then◌else◌}
use Rattle.sail_base.specs.declared.place.Place.{Place}
use Rattle.sail_types.specs.declared.rows.Row.{Row}
use Rattle.sail_types.specs.declared.table.Types.{Types}
use Rattle.sail_core.specs.declared.targets.Suffix.{Suffix}
use Rattle.sail_core.specs.declared.targets.Way.{Way}
use Rattle.sail_core.specs.declared.targets.Way.TheVariants as Y
use Rattle.sail_core.specs.declared.tree.Callee.TheVariants as F
use Rattle.sail_core.specs.declared.tree.Core.{Core, Core-F, fold-roll-Core, ind-Core, map-Core, roll-Core}
use Rattle.sail_core.specs.declared.tree.Kind.{Kind}
use Rattle.sail_core.specs.declared.tree.Kind.TheVariants as K
use Rattle.sail_core.specs.declared.tree.Statement.{Statement}
use Rattle.sail_core.specs.declared.tree.Statement.TheVariants as S
use Rattle.row_types.specs.Calls.{has_state}
use Rattle.value_indices.specs.declared.indices.Indices.{Indices}
use Rattle.size_values.specs.declared.sized.Sized.{Sized}
use Rattle.sized_nodes.specs.declared.trees.Case.{Case}
use Rattle.lowered_pieces.specs.Forms.{Callees, End, Piece, ends_of, one_end, variable_piece}
use Rattle.lowered_pieces.specs.Gathered.{state_piece}
use Rattle.lowered_pieces.specs.Lowering.{Node, block_piece, kind_lowered, kind_piece, node, number_piece, pieces_of, row_piece, truth_piece}
use Rattle.lowered_pieces.specs.Mapped.{all_end, common_ends, ends_if, ends_with, fixed_end}
use Rattle.lowered_pieces.specs.Paths.{path_ends, path_piece, way_ends, way_piece}
use Rattle.lowered_pieces.specs.Places.{Kit}
use Rattle.lowered_pieces.specs.Tables.{Tables}
use Rattle.lowered_validity.specs.Right.{Signs}
use Rattle.lowered_validity.specs.Typing.{Typing, all_ending, block_ends, common_of, ending_if, kind_ends, kind_right, kind_types, number_ends}
use Rattle.lowered_validity.specs.Typing.{row_ends, truth_ends, typing, variable_ends}

module _ (types : Types) (kit : Kit) (number : Sized → ℕ) (callees : Callees) (tables : Tables) (g : Signs) where
  abbrev pub code_at : Core → Node
  code_at = node types kit number callees tables

  abbrev pub typed_at : Core → Typing
  typed_at = typing types number callees tables g

  pub Alike : Core → Type 0
  Alike c = (code_at c).piece.ends ≡ (typed_at c).ends

  abbrev Known : Type 0
  Known = (c : Core) × Alike c

  abbrev cores : List Known → List Core
  cores ys = map (λ y. y.0) ys

  abbrev pieces : List Known → List Piece
  pieces ys = pieces_of (map code_at (cores ys))

  abbrev typings : List Known → List Typing
  typings ys = map typed_at (cores ys)

  as_many : (ys : List Known) → length (pieces ys) ≡ length (typings ys)
  as_many [] = refl
  as_many (y ∷ ys) = ap suc (as_many ys)

  -- ---- forms whose types are said elsewhere

  variable_alike : (us : List Sized) (name : List ℕ) (cases : List Case) (gives : List Indices)
      → (variable_piece kit number us name cases gives).ends ≡ variable_ends types number callees tables g us gives cases
  variable_alike [] name cases gives = refl
  variable_alike (u ∷ us) name cases gives = refl

  row_alike : (b : Bool) (k n : ℕ) (row : Row) (ps : List Piece) → length ps ≡ n
      → (row_piece types kit number callees tables b k row ps).ends ≡ row_ends types number callees tables g b k (tables.cases k n)
  row_alike true k n row ps e =
      by (tables.cases k (length ps)) ∙ ap (λ m. row_ends types number callees tables g true k (tables.cases k m)) e
    where
      by : (cs : List Case) → (state_piece kit row cs (tables.gives k) ps).ends ≡ row_ends types number callees tables g true k cs
      by [] = refl
      by (c ∷ []) = refl
      by (c ∷ d ∷ cs) = refl
  row_alike false k n row ps e = ap (λ m. ends_of (tables.gives k) (tables.cases k m)) e

  number_alike : (o : Option ℤ) → (number_piece types kit number callees tables o).ends ≡ number_ends types number callees tables g o
  number_alike None = refl
  number_alike (Some z) = refl

  truth_alike : (o : Option Bool) → (truth_piece types kit number callees tables o).ends ≡ truth_ends types number callees tables g o
  truth_alike None = refl
  truth_alike (Some b) = refl

  way_alike : (way : Way) (k : ℕ) (ps : List Piece) (p : Piece) (more : List Piece → Piece → Piece) (ends : ℕ → List End → List End)
      → ((qs : List Piece) (q : Piece) → (more qs q).ends ≡ ends (length qs) q.ends)
      → (way_piece kit number tables way k ps p more).ends ≡ way_ends tables way k (length ps) ends
  way_alike (Y.Field struct i) k ps p more ends h = h ps _
  way_alike Y.Item k [] p more ends h = refl
  way_alike Y.Item k (a ∷ ps) p more ends h = h ps _
  way_alike Y.Slice k [] p more ends h = refl
  way_alike Y.Slice k (a ∷ []) p more ends h = refl
  way_alike Y.Slice k (a ∷ b ∷ ps) p more ends h = h ps _

  path_alike : (ss : List Suffix) (ps : List Piece) (p : Piece) → (path_piece kit number tables ss ps p).ends ≡ path_ends tables ss (length ps) p.ends
  path_alike [] [] p = refl
  path_alike [] (a ∷ ps) p = refl
  path_alike (s ∷ ss) ps p = way_alike s.way s.number ps p (path_piece kit number tables ss) (path_ends tables ss) (path_alike ss)

  block_alike : (k : ℕ) (ss : List Statement) (ys : List Known)
      → (block_piece types kit number callees tables k ss (pieces ys)).ends ≡ block_ends types number callees tables g ss (typings ys)
  unfolding Alike
  block_alike k [] [] = refl
  block_alike k [] (y ∷ []) = y.1
  block_alike k [] (y ∷ z ∷ ys) = refl
  block_alike k (S.Evaluate ∷ ss) [] = refl
  block_alike k (S.Evaluate ∷ ss) (y ∷ ys) = block_alike k ss ys
  block_alike k (S.Define place arm ∷ ss) [] = refl
  block_alike k (S.Define place arm ∷ ss) (y ∷ ys) = block_alike k ss ys
  block_alike k (S.Declare name written ∷ ss) [] = refl
  block_alike k (S.Declare name written ∷ ss) (y ∷ ys) = block_alike k ss ys

  all_alike : (t : Sized) (ys : List Known) → all_end t (pieces ys) ≡ all_ending types number callees tables g t (typings ys)
  unfolding Alike
  all_alike t [] = refl
  all_alike t (y ∷ ys) = let first = y.1 in let rest = all_alike t ys in λ i. ends_with t (fixed_end (first i)) && rest i

  common_alike : (ys : List Known) → common_ends (pieces ys) ≡ common_of types number callees tables g (typings ys)
  unfolding Alike
  common_alike [] = refl
  common_alike (y ∷ ys) = ap (λ es. ends_if (fixed_end es) (pieces ys)) y.1 ∙ by (fixed_end (typed_at y.0).ends)
    where
      by : (o : Option Sized) → ends_if o (pieces ys) ≡ ending_if types number callees tables g o (typings ys)
      by None = refl
      by (Some t) = ap (λ b. if b then one_end t else []) (all_alike t ys)

  -- ---- nodes

  said_alike : (k : ℕ) (ys : List Known)
      → ends_of (tables.gives k) (tables.cases k (length (pieces ys))) ≡ ends_of (tables.gives k) (tables.cases k (length (typings ys)))
  said_alike k ys = ap (λ n. ends_of (tables.gives k) (tables.cases k n)) (as_many ys)

  kind_alike : (place : Place) (k : ℕ) (kind : Kind) (ys : List Known)
      → (kind_piece types kit number callees tables place k kind (pieces ys)).ends ≡ kind_ends types number callees tables g k kind (typings ys)
  unfolding Alike
  kind_alike place k (K.Constant literal) [] = refl
  kind_alike place k (K.Local name) [] = refl
  kind_alike place k (K.TopLevel i) [] = refl
  kind_alike place k (K.Register r) [] = refl
  kind_alike place k (K.Variable name) ys = variable_alike (tables.reads name) name (tables.cases k 0) (tables.gives k)
  kind_alike place k (K.Call (F.Function f)) ys = said_alike k ys
  kind_alike place k (K.Call (F.Row row)) ys = row_alike (has_state row) k (length (typings ys)) row (pieces ys) (as_many ys)
  kind_alike place k (K.Call (F.Constructor u c)) ys = said_alike k ys
  kind_alike place k K.Tuple ys = said_alike k ys
  kind_alike place k (K.Vector shape) ys = said_alike k ys
  kind_alike place k (K.List shape) ys = said_alike k ys
  kind_alike place k (K.Cons shape) ys = said_alike k ys
  kind_alike place k (K.Struct struct fields) ys = said_alike k ys
  kind_alike place k (K.With struct (i ∷ [])) ys = said_alike k ys
  kind_alike place k (K.With struct (i ∷ j ∷ is)) ys = said_alike k ys
  kind_alike place k (K.Part suffixes) (a ∷ ys) =
      path_alike suffixes (pieces ys) (code_at a.0).piece ∙ (λ j. path_ends tables suffixes (as_many ys j) (a.1 j))
  kind_alike place k K.WithItem (a ∷ b ∷ c ∷ []) = refl
  kind_alike place k K.WithSlice (a ∷ b ∷ c ∷ d ∷ []) = refl
  kind_alike place k (K.Cast written) (a ∷ []) = refl
  kind_alike place k (K.SizeOf t numbers) [] = number_alike (callees.size t)
  kind_alike place k (K.Constraint c numbers) [] = truth_alike (callees.truth c)
  kind_alike place k (K.Assign (t ∷ [])) ys = refl
  kind_alike place k (K.Block statements) ys = block_alike k statements ys
  kind_alike place k (K.Var name written) (a ∷ b ∷ []) = b.1
  kind_alike place k (K.If shape) (c ∷ a ∷ []) = refl
  kind_alike place k (K.If shape) (c ∷ a ∷ b ∷ []) = refl
  kind_alike place k K.While (m ∷ c ∷ b ∷ []) = refl
  kind_alike place k K.Repeat (m ∷ b ∷ c ∷ []) = refl
  kind_alike place k (K.Foreach name way) (a ∷ b ∷ c ∷ d ∷ []) = refl
  kind_alike place k K.Throw (a ∷ []) = refl
  kind_alike place k K.Return (a ∷ []) = refl
  kind_alike place k K.Exit (a ∷ []) = refl
  kind_alike place k (K.Assert text) (a ∷ []) = refl
  kind_alike place k K.And (a ∷ b ∷ []) = refl
  kind_alike place k K.Or (a ∷ b ∷ []) = refl
  kind_alike place k K.When (a ∷ b ∷ []) = b.1
  kind_alike place k (K.Let arm) (a ∷ b ∷ []) = b.1
  kind_alike place k (K.Match arms shape) (a ∷ ys) = refl
  kind_alike place k (K.Try arms shape) (a ∷ ys) = refl
  kind_alike place k (K.Clauses arms) ys = common_alike ys
  kind_alike place k (K.Call (F.Applies d)) (a ∷ []) = refl
  kind_alike place k (K.Optional t) (a ∷ []) = refl
  kind_alike place k kind ys = refl

  alike_step : (y : Core-F Known) → Alike (roll-Core (map-Core Known Core (λ q. q.0) y))
  unfolding Alike
  alike_step y =
      let d : Core-F Core = map-Core Known Core (λ q. q.0) y in
      ap (λ (n : Node). n.piece.ends) (fold-roll-Core Node (λ c. record {
        piece = kind_piece types kit number callees tables c.place c.number c.kind (pieces_of c.parts);
        ok = kind_lowered types callees tables c.number c.kind c.parts;
      }) d)
      ∙ kind_alike y.place y.number y.kind y.parts
      ∙ ap (λ (t : Typing). t.ends) (sym (fold-roll-Core Typing (λ c. record {
        types = kind_types types number callees tables g c.number c.kind c.parts;
        ends = kind_ends types number callees tables g c.number c.kind c.parts;
        right = kind_right types number callees tables g c.number c.kind c.parts;
      }) d))

  each_alike : (c : Core) → Alike c
  each_alike = ind-Core Alike (λ c y same. subst (λ d. Alike (roll-Core d)) same (alike_step y))

  pub ends_alike : (c : Core) → (code_at c).piece.ends ≡ (typed_at c).ends
  unfolding Alike
  ends_alike c = each_alike c
