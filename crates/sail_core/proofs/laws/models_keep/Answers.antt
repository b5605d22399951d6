use Rattle.sail_core.proofs.SteadyModels.{models_keep}
use Rattle.sail_core.proofs.laws.models_keep.Goals as goal

pub returns : goal.returns
returns c = models_keep
