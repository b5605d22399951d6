-- Registers and variables that get new values, and parts of them, as the code that makes their code holds them.
use Rattle.std.specs.Prelude.{ℕ, List, [], ◌∷◌, Option, Some, None, option_map}
use Rattle.sail_core.specs.declared.tree.Giver.TheVariants as G
use Rattle.sail_core.specs.declared.targets.Suffix.{Suffix}
use Rattle.sail_core.specs.declared.targets.Target.{Target}
use Rattle.sail_core.specs.declared.targets.TargetKind.{TargetKind}
use Rattle.sail_core.specs.declared.targets.TargetKind.TheVariants as T
use Rattle.size_values.specs.declared.sized.Sized.{Sized}
use Rattle.sized_meanings.specs.Present.{gives_at}
use Rattle.sized_nodes.specs.declared.trees.Case.{Case}
use Rattle.jib.specs.declared.code.Instruction.{Instruction}
use Rattle.lowered_pieces.specs.Places.{Naming}
use Rattle.lowered_pieces.specs.Tables.{Tables}
use Rattle.lowered_pieces.specs.Nodes.{cases_at}
use Rattle.lowered_pieces.specs.Forms.{Stand, cast_make, made_arm, made_code}
use Rattle.lowered_pieces.specs.Writes.{Cell as Aim, Holder, Spot, cell_code, cell_labels, component_step, held_make, one, register, renewed_code}
use Rattle.lowered_pieces.specs.Writes.{renewed_tail, several_code, several_labels, store_code, target_spot, typed_code, typed_labels, typed_tail, variable, whole_cell}
use Rattle.lowered_steps.specs.declared.cells.Cell.{Cell}
use Rattle.lowered_steps.specs.declared.cells.Holder.{Holder as Held}
use Rattle.lowered_steps.specs.declared.cells.Holder.TheVariants as H
use Rattle.lowered_steps.specs.declared.setting.Setting.{Setting}
use Rattle.lowered_steps.specs.declared.stands.Stand.{Stand as Standing}
use Rattle.lowered_steps.specs.Setting.{kit_for, nodes_in, number_for, tables_for}
use Rattle.lowered_steps.specs.Stands.{stand_of}
use Rattle.lowered_steps.specs.Stores.{temp_at}

abbrev pub holder_in : Held → Holder
holder_in (H.Register r) = register r
holder_in (H.Variable text) = variable text.now

abbrev pub aim_of : Cell → Aim
aim_of c = record { number = c.number; read = c.read; holder = holder_in c.holder; suffixes = c.suffixes.now }

abbrev pub cell_in : Option Cell → Option Aim
cell_in o = option_map aim_of o

-- the cell that is assigned to, where it is one alone
abbrev pub only_cell : Option Spot → Option Aim
only_cell (Some (one c)) = Some c
only_cell spot = None

-- so where it is a whole
abbrev pub if_whole : Aim → List Suffix → Option Aim
if_whole c [] = Some c
if_whole c (s ∷ ss) = None

abbrev pub whole_only : Option Spot → Option Aim
whole_only (Some (one c)) = if_whole c c.suffixes
whole_only spot = None

-- a register or a variable
abbrev pub alone : ℕ → TargetKind → Option Aim
alone k (T.Register r) = Some (whole_cell k (register r))
alone k (T.Variable name) = Some (whole_cell k (variable name))
alone k kind = None

-- a part of a whole
abbrev pub part_in : ℕ → Aim → List Suffix → Option Aim
part_in k whole [] = None
part_in k whole (s ∷ ss) = Some (record { number = k; read = whole.number; holder = whole.holder; suffixes = s ∷ ss })

abbrev pub part_if : ℕ → Option Aim → List Suffix → Option Aim
part_if k None ss = None
part_if k (Some whole) ss = part_in k whole ss

abbrev pub and_cell : Option Aim → List Aim → List Aim
and_cell None cs = cs
and_cell (Some c) cs = c ∷ cs

abbrev pub cells_of : List Target → List Aim
cells_of [] = []
cells_of (t ∷ ts) = and_cell (only_cell (target_spot t)) (cells_of ts)

module _ (setting : Setting) (name : Naming) where
  abbrev tables : Tables
  tables = tables_for setting []

  abbrev pub stored : Held → Standing → Sized → List Instruction
  stored h s t = store_code setting.types.now (kit_for setting name) tables (holder_in h) (stand_of s) t

  abbrev pub held : Held → Stand → Case → List Instruction
  held h s k = held_make setting.types.now (kit_for setting name) tables (holder_in h) s k

  -- the new part stands in a place at a type
  abbrev pub renewed : Cell → ℕ → ℕ → ℕ → Standing → Sized → List Instruction
  renewed c at i k s t = renewed_code setting.types.now (kit_for setting name) tables (aim_of c) at (temp_at name i k) (stand_of s) t

  abbrev pub renewed_arm : Cell → ℕ → ℕ → ℕ → Standing → Case → ℕ → List Instruction
  renewed_arm c at i k s case l =
      made_arm (kit_for setting name) (number_for setting) (held_make setting.types.now (kit_for setting name) tables (holder_in c.holder))
      (gives_at (nodes_in setting) (G.Node c.read))
      (renewed_tail setting.types.now (kit_for setting name) tables (aim_of c) at (temp_at name i k) (stand_of s)) (stand_of s) case l

  abbrev pub part_code : Cell → ℕ → ℕ → ℕ → Standing → ℕ → List Instruction
  part_code c at i k s l =
      made_code (kit_for setting name) (number_for setting) 0 (held_make setting.types.now (kit_for setting name) tables (holder_in c.holder))
      (cases_at c.read 0 (nodes_in setting)) (gives_at (nodes_in setting) (G.Node c.read))
      (renewed_tail setting.types.now (kit_for setting name) tables (aim_of c) at (temp_at name i k) (stand_of s)) (stand_of s) l

  abbrev pub typed : Cell → ℕ → Standing → Sized → ℕ → List Instruction
  typed c at s t l = typed_code setting.types.now (kit_for setting name) tables c.suffixes.now (aim_of c) at (stand_of s) t l

  abbrev pub typed_count : Cell → ℕ
  typed_count c = typed_labels setting.types.now (kit_for setting name) tables c.suffixes.now (aim_of c)

  abbrev pub cell_arm : Cell → ℕ → Standing → Case → ℕ → List Instruction
  cell_arm c at s case l =
      made_arm (kit_for setting name) (number_for setting) (cast_make (kit_for setting name) (number_for setting))
      (gives_at (nodes_in setting) (G.Node c.number)) (typed_tail setting.types.now (kit_for setting name) tables (aim_of c) at (stand_of s)) (stand_of s)
      case l

  abbrev pub cell_code_of : Cell → ℕ → Standing → ℕ → List Instruction
  cell_code_of c at s l = cell_code setting.types.now (kit_for setting name) tables (aim_of c) at (stand_of s) l

  abbrev pub cell_count : Cell → ℕ
  cell_count c = cell_labels setting.types.now (kit_for setting name) tables (aim_of c)

  abbrev pub component_of : ℕ → Standing → Sized → Instruction
  component_of i s t = component_step setting.types.now (kit_for setting name) tables i (stand_of s) t

  abbrev pub several_of : List Aim → ℕ → ℕ → Standing → Sized → ℕ → List Instruction
  several_of cs i at s t l = several_code setting.types.now (kit_for setting name) tables cs i at (stand_of s) t l

  abbrev pub several_count : List Aim → ℕ
  several_count cs = several_labels setting.types.now (kit_for setting name) tables cs
