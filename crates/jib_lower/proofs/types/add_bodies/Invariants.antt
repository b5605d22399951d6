use Rattle.std.proofs.Common.{◌≡◌, Some, take, true}
use Rattle.lowered_pieces.specs.Emitted.{Begins}
use Rattle.lowered_tables.specs.Built.{with_numbers}
use Rattle.jib_lower.specs.Types.{all_in_bodies, types_in_bodies}
use Rattle.jib_lower.proofs.types.add_bodies.Given as goal

abbrev pub invariant-loop-nodes : goal.invariant-loop-nodes
invariant-loop-nodes l = record {
  begins : Begins l.initial.table.numbered l.table.numbered;
  known : all_in_bodies l.table.numbered (take l.nodes-index l.bodies) ≡ true;
  listed : with_numbers l.types l.initial.table.numbered (types_in_bodies (take l.nodes-index l.bodies)) ≡ Some l.table.numbered;
}
