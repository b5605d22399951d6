use Rattle.std.proofs.Common.{◌≡◌, Some, take, true}
use Rattle.lowered_pieces.specs.Emitted.{Begins}
use Rattle.lowered_tables.specs.Built.{with_numbers}
use Rattle.jib_lower.specs.Types.{all_in_instances, types_in_instances}
use Rattle.jib_lower.proofs.types.add_instances.Given as goal

abbrev pub invariant-loop-instance : goal.invariant-loop-instance
invariant-loop-instance l = record {
  begins : Begins l.initial.table.numbered l.table.numbered;
  known : all_in_instances l.table.numbered (take l.instance-index l.instances) ≡ true;
  listed : with_numbers l.types l.initial.table.numbered (types_in_instances (take l.instance-index l.instances)) ≡ Some l.table.numbered;
}
