use Rattle.std.proofs.Common.{◌≡◌, drop}
use Rattle.jib.specs.Operands.{each}
use Rattle.jib.specs.Valid.{typ_right}
use Rattle.jib.proofs.validity.are_typs.Given as goal

abbrev pub invariant-loop-number : goal.invariant-loop-number
invariant-loop-number l = each typ_right 0 l.types ≡ each typ_right l.number (drop l.number l.types)
