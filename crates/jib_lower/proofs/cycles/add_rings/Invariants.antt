use Rattle.std.proofs.Common.{◌≡◌, length}
use Rattle.jib_lower.specs.Cycles.{AllEven, Joined}
use Rattle.jib_lower.proofs.cycles.add_rings.Given as goal

abbrev pub invariant-loop-at : goal.invariant-loop-at
invariant-loop-at l = Joined (AllEven l.functions l.at) l.initial.graph l.graph
