use Rattle.accepted_models.proofs.Starts.{fresh_fit}
use Rattle.accepted_models.proofs.laws.fresh_states_are_fit.Goals as goal

pub returns : goal.returns
returns c = fresh_fit
