use Rattle.std.proofs.Common.{length}
use Rattle.jib_lower.proofs.cycles.+join_nodes.Given as goal

abbrev pub decreases-join_nodes : goal.decreases-join_nodes
decreases-join_nodes l = length l.nodes.now
