use Rattle.safe_models.proofs.Cores.{values}
use Rattle.safe_models.proofs.laws.values_stand.Goals as goal

pub returns : goal.returns
returns c = values
