use Rattle.lowered_validity.specs.Laws.{NodesAreRight}
use Rattle.lowered_validity.proofs.Nodes.{node_is_right}
use Rattle.lowered_validity.proofs.laws.nodes_are_right.Goals as goal

right : NodesAreRight
right types ss callees tables g m f n name pl all c d = (node_is_right types ss callees m f n name g pl tables all c d).1

pub returns : goal.returns
returns c = right
