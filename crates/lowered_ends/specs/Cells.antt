-- Which registers and variables are lowered that get new values, and parts of them, as the code decides it.
use Rattle.std.specs.Prelude.{Bool, ◌&&◌, List, []}
use Rattle.sail_core.specs.declared.targets.Suffix.{Suffix}
use Rattle.sail_core.specs.declared.tree.Giver.TheVariants as G
use Rattle.size_values.specs.declared.sized.Sized.{Sized}
use Rattle.sized_meanings.specs.Present.{gives_at}
use Rattle.sized_nodes.specs.declared.trees.Case.{Case}
use Rattle.lowered_pieces.specs.Forms.{ends_of, has_ends}
use Rattle.lowered_pieces.specs.Nodes.{cases_at}
use Rattle.lowered_pieces.specs.Tables.{Tables}
use Rattle.lowered_pieces.specs.Writes.{Cell as Aim, Holder, cell_lowered, held_lowered, holder_lowered, path_known, paths_known, several_lowered}
use Rattle.lowered_steps.specs.Cells.{holder_in}
use Rattle.lowered_steps.specs.Setting.{nodes_in, tables_for}
use Rattle.lowered_steps.specs.declared.cells.Cell.{Cell}
use Rattle.lowered_steps.specs.declared.setting.Setting.{Setting}

module _ (setting : Setting) where
  abbrev tables : Tables
  tables = tables_for setting []

  abbrev pub path_ok : List Suffix → Sized → Bool
  path_ok ss t = path_known setting.types.now tables ss t

  abbrev pub paths_ok : List Suffix → List Case → Bool
  paths_ok ss cases = paths_known setting.types.now tables ss cases

  abbrev pub holder_ok : Holder → Bool
  holder_ok h = holder_lowered setting.types.now tables h

  abbrev pub held_ok : Holder → List Case → Bool
  held_ok h cases = held_lowered setting.types.now tables h cases

  abbrev pub cell_ok : Aim → Bool
  cell_ok c = cell_lowered setting.types.now tables c

  abbrev pub cells_ok : List Aim → Bool
  cells_ok cs = several_lowered setting.types.now tables cs

  -- what is read at a node, along a way that there is
  abbrev pub part_with : Cell → List Suffix → Bool
  part_with c ss =
      has_ends (ends_of (gives_at (nodes_in setting) (G.Node c.read)) (cases_at c.read 0 (nodes_in setting)))
      && (paths_ok ss (cases_at c.read 0 (nodes_in setting)) && held_ok (holder_in c.holder) (cases_at c.read 0 (nodes_in setting)))

  abbrev pub part_ok : Cell → Bool
  part_ok c = part_with c c.suffixes.now
