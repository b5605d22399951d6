use Rattle.std.proofs.Common.{◌≡◌, drop}
use Rattle.jib_machine.specs.parts.Unread.{needed_from, is_needed}
use Rattle.jib_machine.proofs.zeros.is_read_first.Given as goal

abbrev pub invariant-loop-instruction : goal.invariant-loop-instruction
invariant-loop-instruction l = needed_from l.slot l.written (drop l.instruction-index l.code) ≡ is_needed l.slot l.code
