use Rattle.shape_joins.proofs.Learnt.{learning_fills}
use Rattle.shape_joins.proofs.laws.learning_fills.Goals as goal

pub returns : goal.returns
returns c = learning_fills
