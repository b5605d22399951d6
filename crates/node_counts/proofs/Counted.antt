-- Any expression, whatever is around it.
use Rattle.node_counts.specs.Laws.{NodesAreCounted}
use Rattle.node_counts.proofs.Trees.{tree_in}
use Rattle.node_counts.proofs.Targets.{targets_in}

pub nodes_are_counted : NodesAreCounted
nodes_are_counted q c around scope aim facts n = (tree_in q (targets_in q) c).0 around scope aim facts n
