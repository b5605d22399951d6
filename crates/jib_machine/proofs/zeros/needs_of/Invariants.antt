use Rattle.std.proofs.Common.{◌≡◌}
use Rattle.jib_machine.specs.parts.Unread.{needs_to}
use Rattle.jib_machine.proofs.zeros.needs_of.Given as goal

abbrev pub invariant-loop-slot : goal.invariant-loop-slot
invariant-loop-slot l = l.needs ≡ needs_to l.code l.slot
