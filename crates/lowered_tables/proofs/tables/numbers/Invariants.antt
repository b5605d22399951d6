use Rattle.std.proofs.Common.{◌≡◌, map, take}
use Rattle.lowered_types.specs.Table.{type_in}
use Rattle.lowered_tables.proofs.tables.numbers.Given as goal

abbrev pub invariant-loop-typ : goal.invariant-loop-typ
invariant-loop-typ l = l.numbers ≡ map (type_in l.numbered) (take l.typ-index l.types)
