use Rattle.std.proofs.Common.{◌≡◌}
use Rattle.jib_machine.proofs.OpenLaws.{set_to}
use Rattle.jib_machine.proofs.opened.set_each.Given as goal

abbrev pub invariant-loop-hart : goal.invariant-loop-hart
invariant-loop-hart g l = l.state ≡ set_to l.hart l.index l.value l.fn.state
