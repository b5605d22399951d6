use Rattle.shape_progress.proofs.Nodes.{cores_go_on}
use Rattle.shape_progress.proofs.laws.cores_go_on.Goals as goal

pub returns : goal.returns
returns c = cores_go_on
