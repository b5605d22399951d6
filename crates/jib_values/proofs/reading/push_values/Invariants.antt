use Rattle.std.proofs.Common.{◌≡◌, ◌++◌, take}
use Rattle.jib_values.specs.Sources.{source_values}
use Rattle.jib_values.proofs.reading.push_values.Given as goal

abbrev pub invariant-loop-source : goal.invariant-loop-source
invariant-loop-source g l =
    l.values.items ≡ l.fn.values.items ++ source_values l.lets l.hart l.state l.slots (take l.source-index l.sources)
