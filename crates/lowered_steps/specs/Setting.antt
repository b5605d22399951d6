-- What the code of a function is made with, as the code that makes it holds it.
use Rattle.std.specs.Prelude.{ℕ, ℤ, List, [], ◌∷◌, Option, Some, None, Bool, is_some, slice_get, if◌then◌else◌}
use Rattle.std.specs.Str.{bytes_eq}
use Rattle.sail_types.specs.declared.numbers.Num.{Num}
use Rattle.size_values.specs.Numbers.{known_at, known_of, value_of}
use Rattle.size_values.specs.declared.sized.Sized.{Sized}
use Rattle.size_values.specs.declared.sized.Sized.TheVariants as S
use Rattle.sized_nodes.specs.declared.trees.NodeSizes.{NodeSizes}
use Rattle.sized_nodes.specs.declared.trees.SizedInstance.{SizedInstance}
use Rattle.sized_meanings.specs.Sized.{joined_nodes}
use Rattle.lowered_types.specs.Table.{is_known, type_in}
use Rattle.lowered_pieces.specs.Nodes.{tables_of}
use Rattle.lowered_pieces.specs.Places.{Kit, Mapped, Naming}
use Rattle.lowered_pieces.specs.Tables.{Tables}
use Rattle.lowered_steps.specs.declared.setting.Mapped.{Mapped as Direction}
use Rattle.lowered_steps.specs.declared.setting.Setting.{Setting}
use Rattle.lowered_steps.specs.declared.setting.Reads.{Reads}

-- what is constant at the nodes of all its trees
abbrev pub nodes_in : Setting → List NodeSizes
nodes_in setting = joined_nodes setting.bodies.now

abbrev pub number_for : Setting → Sized → ℕ
number_for setting = type_in setting.numbered.now

-- the numbers that are known of the function's variables
abbrev pub size_for : Setting → Num → Option ℤ
size_for setting t = value_of (known_at (known_of setting.numbers.now)) t

-- a direction of a mapping; nothing is asked where there is none
abbrev pub mapped_of : Direction → Mapped
mapped_of m = record { function = m.function; takes = m.takes; gives = m.gives; payload = m.payload }

abbrev pub direction_in : Option Direction → Mapped
direction_in None = record { function = 0; takes = S.Never; gives = S.Never; payload = S.Never }
direction_in (Some m) = mapped_of m

abbrev pub ways_for : Setting → ℕ → Mapped
ways_for setting d = direction_in (slice_get setting.directions.now d)

-- which of them are there
abbrev pub crosses_for : Setting → ℕ → Bool
crosses_for setting d = is_some (slice_get setting.directions.now d)

-- under a numbering of slots
abbrev pub kit_for : Setting → Naming → Kit
kit_for setting name = record {
  name = name;
  unit = setting.unit;
  truth = setting.truth;
  integer = setting.integer;
  exception = setting.exception;
  number = number_for setting;
  nothing = setting.nothing.now;
  truths = setting.truths.now;
  depth = λ x. 0;
  size = size_for setting;
  ways = ways_for setting;
}

-- the types at which variables of a name are read
abbrev pub reads_at : List Reads → List ℕ → List Sized
reads_at [] name = []
reads_at (r ∷ rs) name = if bytes_eq r.name name then r.types else reads_at rs name

abbrev pub with_reads : (List ℕ → List Sized) → Tables → Tables
with_reads reads tables = record tables { reads = reads }

abbrev pub tables_for : Setting → List SizedInstance → Tables
tables_for setting instances = with_reads (reads_at setting.reads.now) (tables_of (is_known setting.numbered.now) instances (nodes_in setting))
