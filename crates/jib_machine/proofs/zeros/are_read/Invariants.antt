use Rattle.std.proofs.Common.{◌≡◌, drop}
use Rattle.jib_machine.specs.parts.Unread.{read_among}
use Rattle.jib_machine.proofs.zeros.are_read.Given as goal

abbrev pub invariant-loop-source : goal.invariant-loop-source
invariant-loop-source l = read_among l.slot (drop l.source-index l.sources) ≡ read_among l.slot l.sources
