-- What is said of the types of values, as the code tells it.
use Rattle.std.specs.Prelude.{ℕ, zero, suc, length, Bool, true, false, List, [], ◌∷◌, map, Option, Some, None}
use Rattle.sail_types.specs.declared.table.Types.{Types}
use Rattle.sail_types.specs.declared.numbers.Con.{Con}
use Rattle.sail_types.specs.declared.numbers.Num.{Num}
use Rattle.sail_core.specs.declared.patterns.Literal.{Literal}
use Rattle.sail_core.specs.declared.targets.Suffix.{Suffix}
use Rattle.sail_core.specs.declared.targets.Way.{Way}
use Rattle.sail_core.specs.declared.targets.Way.TheVariants as Y
use Rattle.sail_core.specs.declared.tree.Core.{Core}
use Rattle.sail_core.specs.declared.tree.Statement.{Statement}
use Rattle.sail_core.specs.declared.tree.Giver.TheVariants as G
use Rattle.sail_core.specs.Values.{literal_typ}
use Rattle.checked_meaning.specs.Items.{fixed_typ}
use Rattle.size_values.specs.Numbers.{known_at, known_of, truth_of}
use Rattle.size_values.specs.declared.sized.Sized.{Sized}
use Rattle.size_values.specs.declared.sized.Sized.TheVariants as S
use Rattle.sized_nodes.specs.declared.trees.Case.{Case}
use Rattle.sized_meanings.specs.Present.{gives_at}
use Rattle.lowered_pieces.specs.Forms.{End, ends_of, one_end}
use Rattle.lowered_pieces.specs.Lowering.{pieces_of}
use Rattle.lowered_pieces.specs.Mapped.{all_end, common_ends}
use Rattle.lowered_pieces.specs.Nodes.{cases_at}
use Rattle.lowered_pieces.specs.Paths.{path_ends}
use Rattle.lowered_pieces.specs.Places.{Naming}
use Rattle.lowered_steps.specs.declared.setting.Setting.{Setting}
use Rattle.lowered_steps.specs.Setting.{nodes_in, reads_at, size_for, tables_for}
use Rattle.lowered_ends.specs.declared.around.Around.{Around}
use Rattle.lowered_ends.specs.Around.{node_for}

module _ (setting : Setting) (around : Around) (name : Naming) where
  abbrev pub all_end_for : Sized → List Core → Bool
  all_end_for t cs = all_end t (pieces_of (map (node_for setting around name) cs))

  abbrev pub common_for : List Core → List End
  common_for cs = common_ends (pieces_of (map (node_for setting around name) cs))

  abbrev pub ends_at : Core → List End
  ends_at c = (node_for setting around name c).piece.ends

  -- the second of two parts
  abbrev pub second_ends : List Core → List End
  second_ends (a ∷ b ∷ []) = ends_at b
  second_ends cs = []

  -- the only part
  abbrev pub final_ends : List Core → List End
  final_ends (value ∷ []) = ends_at value
  final_ends cs = []

  -- a block, by what stands behind its statements
  abbrev pub block_ends : List Statement → List Core → List End
  block_ends [] cs = final_ends cs
  block_ends (s ∷ ss) [] = []
  block_ends (s ∷ ss) (c ∷ cs) = block_ends ss cs

  -- a part of a value, with its indexes
  abbrev pub part_ends : List Suffix → List Core → List End
  part_ends ss [] = []
  part_ends ss (c ∷ cs) = path_ends (tables_for setting around.instances.now) ss (length cs) (ends_at c)

-- a literal has no parts
abbrev pub literal_ends : Types → Literal → ℕ → List End
literal_ends types literal zero = one_end (fixed_typ types (literal_typ literal))
literal_ends types literal (suc n) = []

abbrev pub if_known : {A : Type 0} → Sized → Option A → List End
if_known t (Some x) = one_end t
if_known t None = []

-- a type that is said of all
abbrev pub end_where : Sized → Bool → List End
end_where t true = one_end t
end_where t false = []

module _ (setting : Setting) where
  -- a node that makes its value
  abbrev pub made_ends : ℕ → ℕ → List End
  made_ends k n = ends_of (gives_at (nodes_in setting) (G.Node k)) (cases_at k n (nodes_in setting))

  -- where ways meet, at a node with so many parts
  abbrev pub met_ends : ℕ → ℕ → List End
  met_ends k zero = []
  met_ends k (suc n) = made_ends k 1

  -- what a suffix takes out, and the last of several
  abbrev pub suffix_ends : Way → ℕ → List End
  suffix_ends (Y.Field struct i) k = made_ends k 1
  suffix_ends Y.Item k = made_ends k 2
  suffix_ends Y.Slice k = made_ends k 3

  abbrev pub last_ends : Suffix → List Suffix → List End
  last_ends s [] = suffix_ends s.way s.number
  last_ends s (t ∷ ss) = last_ends t ss

  -- of a value of which this is said, where suffixes have just their indexes
  abbrev pub rest_ends : List Suffix → List End → List End
  rest_ends [] es = es
  rest_ends (s ∷ ss) es = last_ends s ss

  -- with its count of parts
  abbrev pub counted_ends : ℕ → ℕ → Bool → List End
  counted_ends k n true = made_ends k n
  counted_ends k n false = []

  -- a variable, where variables of its name are known to be read
  abbrev pub read_ends : List Sized → ℕ → List End
  read_ends [] k = []
  read_ends (t ∷ ts) k = made_ends k 0

  abbrev pub variable_ends : List ℕ → ℕ → List End
  variable_ends text k = read_ends (reads_at setting.reads.now text) k

  -- numbers and truths of type variables have no parts
  abbrev pub size_ends : Num → ℕ → List End
  size_ends t zero = if_known S.Int (size_for setting t)
  size_ends t (suc n) = []

  abbrev pub truth_ends : Con → ℕ → List End
  truth_ends c zero = if_known S.Bool (truth_of (known_at (known_of setting.numbers.now)) c)
  truth_ends c (suc n) = []

  -- a builtin, also of the state
  abbrev pub only_gives : List Case → List End
  only_gives (c ∷ []) = one_end c.gives
  only_gives cs = []

  abbrev pub row_ends : Bool → ℕ → ℕ → List End
  row_ends true k n = only_gives (cases_at k n (nodes_in setting))
  row_ends false k n = made_ends k n
