use Rattle.std.proofs.Common.{◌≡◌, Some, take, true}
use Rattle.lowered_pieces.specs.Emitted.{Begins}
use Rattle.lowered_tables.specs.Built.{with_numbers}
use Rattle.jib_lower.specs.Types.{all_in_told, types_in_told}
use Rattle.jib_lower.proofs.types.add_told.Given as goal

abbrev pub invariant-loop-one : goal.invariant-loop-one
invariant-loop-one l = record {
  begins : Begins l.initial.table.numbered l.table.numbered;
  known : all_in_told l.table.numbered (take l.one-index l.told) ≡ true;
  listed : with_numbers l.types l.initial.table.numbered (types_in_told (take l.one-index l.told)) ≡ Some l.table.numbered;
}
