use Rattle.std.proofs.Common.{◌≡◌, take, map}
use Rattle.jib_values.specs.Operands.{value_in}
use Rattle.jib_values.specs.Sources.{source_values}
use Rattle.jib_values.proofs.working.from_many.Given as goal

abbrev pub invariant-loop-source : goal.invariant-loop-source
invariant-loop-source g l =
    map value_in l.operands.items ≡ source_values l.lets l.hart l.state l.slots (take l.source-index l.sources)
