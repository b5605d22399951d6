use Rattle.safe_models.proofs.Fresh.{fresh_fits}
use Rattle.safe_models.proofs.laws.fresh_states_belong.Goals as goal

pub returns : goal.returns
returns c = fresh_fits
