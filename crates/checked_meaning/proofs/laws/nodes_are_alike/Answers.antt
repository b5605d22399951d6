use Rattle.checked_meaning.proofs.NodesAlike.{core_alike}
use Rattle.checked_meaning.proofs.laws.nodes_are_alike.Goals as goal

pub returns : goal.returns
returns c = core_alike
