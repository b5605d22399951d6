use Rattle.std.proofs.Common.{◌≡◌, ◌∙◌, ◌+◌, ◌∷◌, [], ap, arith, length, length-append}
use Rattle.jib_lower.proofs.Falling.{falls_more}
use Rattle.jib_lower.proofs.cycles.empty_graph.Goals as goal

pub loop-preserved : goal.loop-preserved
loop-preserved c =
    let more : length c.add_node.new.self ≡ length c.loop.graph + 1 = ap length c.in_ok-add_node.ensures.added ∙ length-append c.loop.graph ([] ∷ []) in
    record {
      many = omega (arith, more, c.loop.invariant.many);
      falls = falls_more c.loop.graph c.add_node.new.self c.in_ok-add_node.ensures.added c.loop.invariant.falls;
    }
