use Rattle.std.proofs.Common.{arith}
use Rattle.jib_lower.proofs.Falling.{even_next}
use Rattle.jib_lower.proofs.cycles.join_behind.Goals as goal

pub loop-next-preserved : goal.loop-next-preserved
loop-next-preserved c =
    even_next c.args.functions.now c.args.at c.loop-next.next c.index-functions-at.result c.index-functions-next.result c.in_one.result c.args.graph.now
    c.loop-next.graph c.join_pair.new.graph c.in_one.ensures c.requires.inside (omega arith) (omega arith) c.loop-next.invariant c.in_ok-join_pair.ensures
