use Rattle.std.proofs.Common.{◌≡◌, map, take}
use Rattle.checked_meaning.specs.Items.{constant_of}
use Rattle.lowered_tables.proofs.tables.constants_of.Given as goal

abbrev pub invariant-loop-size : goal.invariant-loop-size
invariant-loop-size l = l.constants ≡ map constant_of (take l.size-index l.sizes)
