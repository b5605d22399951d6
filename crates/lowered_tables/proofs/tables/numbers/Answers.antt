use Rattle.lowered_types.specs.Table.{type_in}
use Rattle.lowered_tables.proofs.Growing.{map_whole}
use Rattle.lowered_tables.proofs.tables.numbers.Goals as goal

pub returns : goal.returns
returns c =
    map_whole (type_in c.args.numbered.now) c.args.types.now c.loop-typ.typ-index c.loop-typ.numbers c.loop-typ-test.false c.loop-typ.invariant
