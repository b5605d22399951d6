-- Which nodes are lowered, as the code decides it.
use Rattle.std.specs.Prelude.{ℕ, zero, suc, ℤ, length, nat_eq, Bool, true, false, ◌&&◌, Option, Some, None, List, [], ◌∷◌, map}
use Rattle.sail_types.specs.Limits.{is_small}
use Rattle.sail_core.specs.declared.patterns.Literal.{Literal}
use Rattle.sail_core.specs.declared.targets.Suffix.{Suffix}
use Rattle.sail_core.specs.declared.targets.Way.{Way}
use Rattle.sail_core.specs.declared.targets.Way.TheVariants as Y
use Rattle.sail_core.specs.declared.tree.Statement.{Statement}
use Rattle.sail_core.specs.declared.tree.Statement.TheVariants as S
use Rattle.sail_core.specs.declared.tree.Core.{Core}
use Rattle.sail_core.specs.Values.{literal_typ, literal_value}
use Rattle.checked_meaning.specs.Fits.{has_sizes}
use Rattle.checked_meaning.specs.Items.{fixed_typ}
use Rattle.lowered_types.specs.Table.{is_known}
use Rattle.lowered_pieces.specs.Arms.{arm_fits}
use Rattle.lowered_pieces.specs.Nodes.{cases_at, is_empty}
use Rattle.lowered_pieces.specs.Writes.{is_read}
use Rattle.lowered_pieces.specs.Gathered.{all_one}
use Rattle.lowered_pieces.specs.Lowering.{Node, all_lowered, block_lowered, is_matched, pieces_of}
use Rattle.lowered_pieces.specs.Tables.{cases_among}
use Rattle.lowered_pieces.specs.Places.{Naming}
use Rattle.lowered_steps.specs.declared.setting.Setting.{Setting}
use Rattle.lowered_steps.specs.Setting.{crosses_for, nodes_in, reads_at, size_for, tables_for}
use Rattle.lowered_ends.specs.declared.around.Around.{Around}
use Rattle.lowered_ends.specs.Around.{callees_of, node_for}

abbrev pub way_fits : Way → ℕ → (ℕ → Bool) → Bool
way_fits (Y.Field struct i) n more = more n
way_fits Y.Item (suc n) more = more n
way_fits Y.Slice (suc (suc n)) more = more n
way_fits way n more = false

-- suffixes have just so many indexes
abbrev pub suffixes_fit : List Suffix → ℕ → Bool
suffixes_fit [] zero = true
suffixes_fit (s ∷ ss) n = way_fits s.way n (suffixes_fit ss)
suffixes_fit ss n = false

module _ (setting : Setting) (around : Around) (name : Naming) where
  abbrev nodes_here : List Core → List Node
  nodes_here cs = map (node_for setting around name) cs

  abbrev pub all_for : List Core → Bool
  all_for cs = all_lowered (nodes_here cs)

  abbrev pub all_one_for : List Core → Bool
  all_one_for cs = all_one (pieces_of (nodes_here cs))

  abbrev pub matched_for : Core → Bool
  matched_for c = is_matched (node_for setting around name c)

  -- a statement, with its part
  abbrev pub statement_ok : Statement → Core → Bool
  statement_ok S.Evaluate c = (node_for setting around name c).ok
  statement_ok (S.Define place arm) c = arm_fits (size_for setting) (crosses_for setting) (reads_at setting.reads.now) arm && matched_for c
  statement_ok (S.Declare text written) c = (node_for setting around name c).ok

  abbrev pub block_ok : List Statement → List Core → Bool
  block_ok ss cs = block_lowered (callees_of setting around) (tables_for setting around.instances.now) ss (nodes_here cs)

  -- a loop over numbers, of which no variable is read that has the number's name
  abbrev pub foreach_ok : List ℕ → List Core → Bool
  foreach_ok text cs = is_empty (reads_at setting.reads.now text) && (nat_eq (length cs) 4 && all_for cs)

-- a variable that a node of so many parts reads
abbrev pub variable_ok : Setting → List ℕ → ℕ → ℕ → Bool
variable_ok setting text k n =
    is_read (reads_at setting.reads.now text) && (nat_eq n 0 && cases_among (reads_at setting.reads.now text) (cases_at k 0 (nodes_in setting)))

-- a number that is known, and an integer of a model
abbrev pub number_fits : Option ℤ → Bool
number_fits None = false
number_fits (Some z) = is_small z

abbrev pub literal_ok : Setting → Literal → Bool
literal_ok setting literal =
    has_sizes setting.types.now (literal_value literal) (fixed_typ setting.types.now (literal_typ literal))
    && is_known setting.numbered.now (fixed_typ setting.types.now (literal_typ literal))
