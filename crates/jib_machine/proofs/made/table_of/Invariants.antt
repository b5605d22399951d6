use Rattle.std.proofs.Common.{◌≡◌, take}
use Rattle.jib_machine.specs.parts.Tables.{aims}
use Rattle.jib_machine.proofs.made.table_of.Given as goal

abbrev pub invariant-loop-instruction : goal.invariant-loop-instruction
invariant-loop-instruction l = l.table ≡ aims l.code (take l.instruction-index l.code)
