use Rattle.std.proofs.Common.{◌≡◌, ◌-◌, Some, take}
use Rattle.lowered_pieces.specs.Emitted.{Begins}
use Rattle.lowered_tables.specs.Built.{numbered_below, one_by_one}
use Rattle.lowered_tables.proofs.tables.+add_below.Given as goal

abbrev pub decreases-add_below : goal.decreases-add_below
decreases-add_below l = l.depth

abbrev pub invariant-loop-part : goal.invariant-loop-part
invariant-loop-part l = record {
  begins : Begins l.initial.list.numbered l.list.numbered;
  listed : one_by_one (numbered_below l.types (l.depth - 1)) l.initial.list.numbered (take l.part-index l.inside) ≡ Some l.list.numbered;
}
