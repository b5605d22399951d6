use Rattle.sized_trees.proofs.Closed as closed
use Rattle.sized_trees.proofs.laws.calls_lead_to_instances.Goals as goal

pub returns : goal.returns
returns c = closed.calls_lead_to_instances
