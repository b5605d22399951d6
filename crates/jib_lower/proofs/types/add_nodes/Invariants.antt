use Rattle.std.proofs.Common.{◌≡◌, Some, take, true}
use Rattle.lowered_pieces.specs.Emitted.{Begins}
use Rattle.lowered_tables.specs.Built.{with_numbers}
use Rattle.jib_lower.specs.Types.{all_in_nodes, types_in_nodes}
use Rattle.jib_lower.proofs.types.add_nodes.Given as goal

abbrev pub invariant-loop-sizes : goal.invariant-loop-sizes
invariant-loop-sizes l = record {
  begins : Begins l.initial.table.numbered l.table.numbered;
  known : all_in_nodes l.table.numbered (take l.sizes-index l.nodes) ≡ true;
  listed : with_numbers l.types l.initial.table.numbered (types_in_nodes (take l.sizes-index l.nodes)) ≡ Some l.table.numbered;
}
