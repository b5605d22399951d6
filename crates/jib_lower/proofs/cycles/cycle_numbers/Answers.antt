use Rattle.jib_lower.proofs.Falling.{best}
use Rattle.jib_lower.proofs.cycles.cycle_numbers.Goals as goal

pub returns : goal.returns
returns c =
    best c.args.functions.now c.args.instances.now c.args.mappings.now c.args.turns.now c.in_ok-graph.graph c.in_ok-graph.ensures c.in_ok-cycles.cycles
    c.in_ok-numbers.numbers c.in_ok-numbers.ensures c.in_ok-cycles.ensures.nodes (λ left right l r. (c.in_ok-cycles.ensures.components left right l r).0)
    c.in_ok-cycles.ensures.order
