use Rattle.sized_trees.proofs.Asked as asked
use Rattle.sized_trees.proofs.laws.nodes_ask_alike.Goals as goal

pub returns : goal.returns
returns c = asked.nodes_ask_alike
