use Rattle.safe_models.proofs.OwnConstraints.{constraints_own}
use Rattle.safe_models.proofs.laws.constraints_are_own.Goals as goal

pub returns : goal.returns
returns c = constraints_own
