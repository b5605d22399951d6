use Rattle.std.proofs.Common.{◌≡◌, Some, take, true}
use Rattle.lowered_types.specs.Table.{all_known}
use Rattle.lowered_pieces.specs.Emitted.{Begins}
use Rattle.lowered_tables.specs.Built.{with_numbers}
use Rattle.lowered_tables.proofs.tables.add_all.Given as goal

abbrev pub invariant-loop-typ : goal.invariant-loop-typ
invariant-loop-typ l = record {
  begins : Begins l.initial.list.numbered l.list.numbered;
  known : all_known l.list.numbered (take l.typ-index l.all) ≡ true;
  listed : with_numbers l.types l.initial.list.numbered (take l.typ-index l.all) ≡ Some l.list.numbered;
}
