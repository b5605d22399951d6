-- How the meaning under constant sizes goes by the tables that code is made with.
use Rattle.std.specs.Prelude.{◌≡◌, Bool, true, List}
use Rattle.sail_types.specs.declared.table.Types.{Types}
use Rattle.sized_nodes.specs.declared.trees.NodeSizes.{NodeSizes}
use Rattle.sized_nodes.specs.declared.trees.SizedInstance.{SizedInstance}
use Rattle.sized_meanings.specs.Sized.{cases_of, noted_cases_of}
use Rattle.lowered_laws.specs.Telling.{Tells}
use Rattle.size_values.specs.declared.sized.Sized.{Sized}
use Rattle.lowered_pieces.specs.Nodes.{plain_nodes, tables_of}
use Rattle.lowered_laws.specs.TablesTelling.{EachAlone, all_known}

-- the meaning of a body goes by its tables, where of one number and count of operands no others are said, all types have numbers, and no case asks for
-- a number that its value itself gives
abbrev pub CasesTell : Type 0
CasesTell = (types : Types) (known : Sized → Bool) (instances : List SizedInstance) (nodes : List NodeSizes) → EachAlone nodes
    → all_known known nodes ≡ true → plain_nodes nodes ≡ true → Tells types (tables_of known instances nodes) (cases_of types instances nodes)

-- where each case goes by the numbers that are noted before, also where cases ask for what their values give
abbrev pub NotedCasesTell : Type 0
NotedCasesTell = (types : Types) (known : Sized → Bool) (instances : List SizedInstance) (nodes : List NodeSizes) → EachAlone nodes
    → all_known known nodes ≡ true → Tells types (tables_of known instances nodes) (noted_cases_of types instances nodes)
