use Rattle.lowered_laws.specs.FormLaws.{NodesSimulate}
use Rattle.lowered_laws.proofs.Nodes.{node_good}
use Rattle.lowered_laws.proofs.form_laws.nodes_simulate.Goals as goal

simulate : NodesSimulate
simulate g callees w ok around c h = node_good g callees w ok around c h

pub returns : goal.returns
returns c = record { simulate = simulate }
