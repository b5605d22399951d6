use Rattle.std.proofs.Common.{◌≡◌, Some, take, true}
use Rattle.lowered_pieces.specs.Emitted.{Begins}
use Rattle.lowered_tables.specs.Built.{with_numbers}
use Rattle.jib_lower.specs.Types.{all_in_registers, types_in_registers}
use Rattle.jib_lower.proofs.types.add_registers.Given as goal

abbrev pub invariant-loop-register : goal.invariant-loop-register
invariant-loop-register l = record {
  begins : Begins l.initial.table.numbered l.table.numbered;
  known : all_in_registers l.types l.table.numbered (take l.register-index l.registers) ≡ true;
  listed : with_numbers l.types l.initial.table.numbered (types_in_registers l.types (take l.register-index l.registers)) ≡ Some l.table.numbered;
}
