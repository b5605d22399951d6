-- What forms note, as the code lists it.
use Rattle.std.specs.Prelude.{ℕ, zero, suc, Bool, true, false, List, [], ◌∷◌, ◌++◌, length, map}
use Rattle.sail_core.specs.declared.targets.Suffix.{Suffix}
use Rattle.sail_core.specs.declared.targets.Way.{Way}
use Rattle.sail_core.specs.declared.targets.Way.TheVariants as Y
use Rattle.sail_core.specs.declared.tree.Giver.{Giver}
use Rattle.sail_core.specs.declared.tree.Giver.TheVariants as G
use Rattle.sail_core.specs.declared.tree.Statement.{Statement}
use Rattle.sail_core.specs.declared.tree.Statement.TheVariants as X
use Rattle.sail_core.specs.declared.tree.Core.{Core}
use Rattle.size_values.specs.declared.sized.Sized.{Sized}
use Rattle.sized_meanings.specs.Present.{gives_at}
use Rattle.sized_nodes.specs.declared.trees.Case.{Case}
use Rattle.lowered_pieces.specs.Places.{Naming}
use Rattle.lowered_pieces.specs.Forms.{Piece, all_notes, cases_ends, joined}
use Rattle.lowered_pieces.specs.Gathered.{is_one}
use Rattle.lowered_pieces.specs.Lowering.{block_piece, pieces_of}
use Rattle.lowered_pieces.specs.Nodes.{cases_at}
use Rattle.lowered_pieces.specs.Writes.{Cell}
use Rattle.lowered_steps.specs.Cells.{aim_of, cells_of}
use Rattle.lowered_steps.specs.declared.setting.Setting.{Setting}
use Rattle.lowered_steps.specs.Setting.{kit_for, number_for, reads_at, tables_for, nodes_in}
use Rattle.lowered_ends.specs.declared.around.Around.{Around}
use Rattle.lowered_ends.specs.declared.targets.Spot.{Spot}
use Rattle.lowered_ends.specs.declared.targets.Spot.TheVariants as S
use Rattle.lowered_ends.specs.Around.{callees_of, node_for, piece_for}

-- at the node of a cell, and where the whole is read
abbrev pub typed_listed : Setting → List Suffix → Cell → List ℕ
typed_listed setting [] c = []
typed_listed setting (s ∷ ss) c = all_notes (gives_at (nodes_in setting) (G.Node c.read))

abbrev pub cell_listed : Setting → Cell → List ℕ
cell_listed setting c = all_notes (gives_at (nodes_in setting) (G.Node c.number)) ++ typed_listed setting c.suffixes c

abbrev pub cells_listed : Setting → List Cell → List ℕ
cells_listed setting [] = []
cells_listed setting (c ∷ cs) = cell_listed setting c ++ cells_listed setting cs

module _ (setting : Setting) (around : Around) (name : Naming) where
  abbrev pub node_notes : Core → List ℕ
  node_notes c = (piece_for setting around name c).notes

  abbrev own_notes : ℕ → List ℕ
  own_notes k = all_notes (gives_at (nodes_in setting) (G.Node k))

  abbrev pub all_noted : List Core → List ℕ
  all_noted cs = joined (map node_notes cs)

  abbrev pub made_notes : ℕ → List Core → List ℕ
  made_notes k cs = all_noted cs ++ own_notes k

  -- those of a node with so many operands
  abbrev pub counted_notes : ℕ → List Core → Bool → List ℕ
  counted_notes k cs true = made_notes k cs
  counted_notes k cs false = []

  -- those of one part, of the first of two, and of both
  abbrev pub one_noted : List Core → List ℕ
  one_noted (c ∷ []) = node_notes c
  one_noted cs = []

  abbrev pub first_noted : List Core → List ℕ
  first_noted (c ∷ d ∷ []) = node_notes c
  first_noted cs = []

  abbrev pub both_noted : List Core → List ℕ
  both_noted (c ∷ d ∷ []) = node_notes c ++ node_notes d
  both_noted cs = []

  -- those of the bounds of a `foreach`
  abbrev pub bounds_noted : List Core → List ℕ
  bounds_noted (c ∷ d ∷ e ∷ body ∷ []) = node_notes c ++ (node_notes d ++ node_notes e)
  bounds_noted cs = []

  -- those of a `let`, and of a `match`
  abbrev pub let_noted : ℕ → List Core → List ℕ
  let_noted k (c ∷ d ∷ []) = node_notes c ++ (all_notes (gives_at (nodes_in setting) (G.Arm k 0)) ++ node_notes d)
  let_noted k cs = []

  abbrev pub match_noted : ℕ → List Core → List ℕ
  match_noted k (c ∷ cs) = node_notes c ++ own_notes k
  match_noted k [] = []

  -- those of a builtin; one of the state has one case
  abbrev pub only_notes : List Case → ℕ → List Core → List ℕ
  only_notes (x ∷ []) k cs = made_notes k cs
  only_notes cases k cs = []

  abbrev pub row_noted : Bool → ℕ → List Core → List ℕ
  row_noted true k cs = only_notes (cases_at k (length cs) (nodes_in setting)) k cs
  row_noted false k cs = made_notes k cs

  -- those of an assignment
  abbrev pub assigned_notes : Spot → List Core → List ℕ
  assigned_notes S.Other cs = []
  assigned_notes (S.One c) cs = all_noted cs ++ cell_listed setting (aim_of c)
  assigned_notes (S.Several targets) cs = all_noted cs ++ cells_listed setting (cells_of targets.now)
  assigned_notes (S.Called k place n j f) cs = all_noted cs ++ (own_notes k ++ own_notes j)

  -- those of a suffix with its indexes, and of what stands behind it
  abbrev pub item_from : ℕ → List Core → (List Core → List ℕ) → List ℕ
  item_from k (c ∷ cs) more = node_notes c ++ (own_notes k ++ more cs)
  item_from k [] more = []

  abbrev pub slice_from : ℕ → List Core → (List Core → List ℕ) → List ℕ
  slice_from k (c ∷ d ∷ cs) more = node_notes c ++ (node_notes d ++ (own_notes k ++ more cs))
  slice_from k cs more = []

  abbrev pub way_notes : Way → ℕ → List Core → (List Core → List ℕ) → List ℕ
  way_notes (Y.Field struct i) k cs more = own_notes k ++ more cs
  way_notes Y.Item k cs more = item_from k cs more
  way_notes Y.Slice k cs more = slice_from k cs more

  abbrev pub suffix_notes : List Suffix → List Core → List ℕ
  suffix_notes [] cs = []
  suffix_notes (s ∷ ss) cs = way_notes s.way s.number cs (suffix_notes ss)

  abbrev pub item_notes : ℕ → List Suffix → List Core → List ℕ
  item_notes k ss cs = item_from k cs (suffix_notes ss)

  abbrev pub slice_notes : ℕ → List Suffix → List Core → List ℕ
  slice_notes k ss cs = slice_from k cs (suffix_notes ss)

  abbrev pub block_for : ℕ → List Statement → List Core → Piece
  block_for k ss cs =
      block_piece setting.types.now (kit_for setting name) (number_for setting) (callees_of setting around) (tables_for setting around.instances.now) k ss
      (pieces_of (map (node_for setting around name) cs))

-- a builtin of the state notes where it has one case
abbrev pub row_listed : Setting → Bool → ℕ → ℕ → Bool
row_listed setting true k n = is_one (cases_ends (cases_at k n (nodes_in setting)))
row_listed setting false k n = true

module _ (setting : Setting) (k : ℕ) where
  abbrev given_notes : List ℕ
  given_notes = all_notes (gives_at (nodes_in setting) (G.Node k))

  -- of a node without parts
  abbrev pub leaf_notes : ℕ → List ℕ
  leaf_notes zero = given_notes
  leaf_notes (suc n) = []

  -- of a `try`
  abbrev pub caught_notes : ℕ → List ℕ
  caught_notes zero = []
  caught_notes (suc n) = given_notes ++ given_notes

-- of a variable, where variables of its name are known to be read
abbrev pub read_notes : Setting → List Sized → ℕ → List ℕ
read_notes setting [] k = []
read_notes setting (t ∷ ts) k = all_notes (gives_at (nodes_in setting) (G.Node k))

abbrev pub variable_notes : Setting → List ℕ → ℕ → List ℕ
variable_notes setting text k = read_notes setting (reads_at setting.reads.now text) k

-- what a statement's names note
abbrev pub named_notes : Setting → Giver → Statement → List ℕ
named_notes setting giver (X.Define place arm) = all_notes (gives_at (nodes_in setting) giver)
named_notes setting giver X.Evaluate = []
named_notes setting giver (X.Declare text written) = []
