use Rattle.lowered_laws.specs.FormLaws.{NodesOwnLabels}
use Rattle.lowered_laws.proofs.OwnLabels.{node_owns}
use Rattle.lowered_laws.proofs.form_laws.nodes_own_labels.Goals as goal

own : NodesOwnLabels
own types kit number callees tables c tail ot s = node_owns types kit number callees tables c tail ot s

pub returns : goal.returns
returns c = record { own = own }
