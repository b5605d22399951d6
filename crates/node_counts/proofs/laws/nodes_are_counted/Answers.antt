use Rattle.node_counts.proofs.Counted.{nodes_are_counted}
use Rattle.node_counts.proofs.laws.nodes_are_counted.Goals as goal

pub returns : goal.returns
returns c = nodes_are_counted
