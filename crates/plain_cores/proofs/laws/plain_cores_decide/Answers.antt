use Rattle.plain_cores.proofs.Plain.{plain_cores_decide}
use Rattle.plain_cores.proofs.laws.plain_cores_decide.Goals as goal

pub returns : goal.returns
returns c = plain_cores_decide
