use Rattle.std.proofs.Common.{◌≡◌, drop}
use Rattle.jib.specs.Operands.{each}
use Rattle.jib.specs.Valid.{opening_right}
use Rattle.jib.proofs.validity.openings_are_right.Given as goal

abbrev pub invariant-loop-number : goal.invariant-loop-number
invariant-loop-number l = each (opening_right l.program) 0 l.program.openings ≡ each (opening_right l.program) l.number (drop l.number l.program.openings)
