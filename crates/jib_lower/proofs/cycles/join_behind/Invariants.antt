use Rattle.std.proofs.Common.{◌≡◌, length}
use Rattle.jib_lower.specs.Cycles.{EvenBehind, Joined}
use Rattle.jib_lower.proofs.cycles.join_behind.Given as goal

abbrev pub invariant-loop-next : goal.invariant-loop-next
invariant-loop-next l = Joined (EvenBehind l.functions l.at l.next) l.initial.graph l.graph
