use Rattle.std.proofs.Common.{◌≡◌, map, take, true}
use Rattle.lowered_tables.specs.Built.{all_inside, value_at}
use Rattle.lowered_tables.proofs.tables.values_of.Given as goal

abbrev pub invariant-loop-typ : goal.invariant-loop-typ
invariant-loop-typ l = record {
  values : l.values ≡ map (value_at l.types l.numbered) (take l.typ-index l.numbered);
  inside : all_inside l.types l.numbered (take l.typ-index l.numbered) ≡ true;
}
