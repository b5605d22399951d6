use Rattle.shape_stands.proofs.Standing.{has_filled, node_has}
use Rattle.shape_stands.proofs.laws.nodes_stand.Goals as goal

pub returns-clause-nodes : goal.returns-clause-nodes
returns-clause-nodes c = node_has

pub returns-clause-filled : goal.returns-clause-filled
returns-clause-filled c = has_filled
