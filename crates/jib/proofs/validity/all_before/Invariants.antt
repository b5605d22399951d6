use Rattle.std.proofs.Common.{◌≡◌, drop}
use Rattle.jib.specs.Operands.{each}
use Rattle.jib.specs.Valid.{before}
use Rattle.jib.proofs.validity.all_before.Given as goal

abbrev pub invariant-loop-index : goal.invariant-loop-index
invariant-loop-index l = each (before l.number) 0 l.types ≡ each (before l.number) l.index (drop l.index l.types)
