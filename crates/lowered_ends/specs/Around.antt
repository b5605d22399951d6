-- What is around a function, as the code that makes its code holds it.
use Rattle.std.specs.Prelude.{ℕ, ◌+◌, ◌*◌, Bool, map, Option, Some, None, slice_get, slice_index_or}
use Rattle.size_values.specs.declared.sized.Sized.{Sized}
use Rattle.size_values.specs.declared.sized.Sized.TheVariants as S
use Rattle.size_values.specs.Numbers.{known_of, known_at, truth_of}
use Rattle.sized_nodes.specs.declared.trees.Signature.{Signature}
use Rattle.sized_nodes.specs.declared.trees.SizedInstance.{SizedInstance}
use Rattle.sail_core.specs.declared.tree.Core.{Core, out-Core}
use Rattle.sail_core.specs.declared.tree.Kind.{Kind}
use Rattle.lowered_pieces.specs.Places.{Naming}
use Rattle.lowered_pieces.specs.Forms.{Callees, Piece}
use Rattle.lowered_pieces.specs.Lowering.{Node, kind_lowered, kind_piece, node, pieces_of}
use Rattle.lowered_pieces.specs.Nodes.{told_as}
use Rattle.lowered_steps.specs.declared.setting.Setting.{Setting}
use Rattle.lowered_steps.specs.Setting.{crosses_for, kit_for, number_for, size_for, tables_for, ways_for}
use Rattle.lowered_ends.specs.declared.around.Around.{Around}

-- of the instance of a place the function that calls enter, behind so many others; events enter the one behind it
abbrev pub called_number : ℕ → ℕ → ℕ
called_number before p = before + 2 * p

abbrev pub result_in : Option Signature → Sized
result_in None = S.Never
result_in (Some s) = told_as s.result

abbrev pub answer_in : Option SizedInstance → Sized
answer_in None = S.Never
answer_in (Some x) = result_in x.signature

abbrev pub callees_of : Setting → Around → Callees
callees_of setting around = record {
  function = called_number around.before;
  answer = λ p. answer_in (slice_get around.instances.now p);
  size = size_for setting;
  truth = λ c. truth_of (known_at (known_of setting.numbers.now)) c;
  given = around.given.now;
  opening = λ i. slice_index_or around.openings.now i 0;
  direction = ways_for setting;
  crosses = crosses_for setting;
}

-- the code of a node, under a numbering of slots, and whether it is lowered here
abbrev pub node_for : Setting → Around → Naming → Core → Node
node_for setting around name =
    node setting.types.now (kit_for setting name) (number_for setting) (callees_of setting around) (tables_for setting around.instances.now)

abbrev pub piece_for : Setting → Around → Naming → Core → Piece
piece_for setting around name c = (node_for setting around name c).piece

-- a node as one of a kind, and whether it is lowered here as one
abbrev pub piece_as : Setting → Around → Naming → Kind → Core → Piece
piece_as setting around name kind c =
    kind_piece setting.types.now (kit_for setting name) (number_for setting) (callees_of setting around) (tables_for setting around.instances.now)
    (out-Core c).place (out-Core c).number kind (pieces_of (map (node_for setting around name) (out-Core c).parts))

abbrev pub ok_as : Setting → Around → Naming → Kind → Core → Bool
ok_as setting around name kind c =
    kind_lowered setting.types.now (callees_of setting around) (tables_for setting around.instances.now) (out-Core c).number kind
    (map (node_for setting around name) (out-Core c).parts)
