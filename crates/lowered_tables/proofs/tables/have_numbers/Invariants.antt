use Rattle.std.proofs.Common.{◌≡◌, take, true}
use Rattle.lowered_types.specs.Table.{all_known}
use Rattle.lowered_tables.proofs.tables.have_numbers.Given as goal

abbrev pub invariant-loop-typ : goal.invariant-loop-typ
invariant-loop-typ l = all_known l.numbered (take l.typ-index l.types) ≡ true
