use Rattle.std.proofs.Common.{◌≡◌, drop}
use Rattle.jib_lower.specs.Cycles.{bodies_fall}
use Rattle.jib_lower.proofs.cycles.bodies_fall.Given as goal

abbrev pub invariant-loop-nodes : goal.invariant-loop-nodes
invariant-loop-nodes l = bodies_fall l.numbers l.instances l.own (drop l.nodes-index l.bodies) ≡ bodies_fall l.numbers l.instances l.own l.bodies
