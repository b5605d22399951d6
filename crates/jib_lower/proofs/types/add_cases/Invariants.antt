use Rattle.std.proofs.Common.{◌≡◌, Some, take, true}
use Rattle.lowered_pieces.specs.Emitted.{Begins}
use Rattle.lowered_tables.specs.Built.{with_numbers}
use Rattle.jib_lower.specs.Types.{all_in_cases, types_in_cases}
use Rattle.jib_lower.proofs.types.add_cases.Given as goal

abbrev pub invariant-loop-case : goal.invariant-loop-case
invariant-loop-case l = record {
  begins : Begins l.initial.table.numbered l.table.numbered;
  known : all_in_cases l.table.numbered (take l.case-index l.cases) ≡ true;
  listed : with_numbers l.types l.initial.table.numbered (types_in_cases (take l.case-index l.cases)) ≡ Some l.table.numbered;
}
