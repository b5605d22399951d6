use Rattle.std.proofs.Common.{◌≡◌, drop}
use Rattle.jib_lower.specs.Cycles.{nodes_fall}
use Rattle.jib_lower.proofs.cycles.nodes_fall.Given as goal

abbrev pub invariant-loop-sizes : goal.invariant-loop-sizes
invariant-loop-sizes l = nodes_fall l.numbers l.instances l.own (drop l.sizes-index l.nodes) ≡ nodes_fall l.numbers l.instances l.own l.nodes
