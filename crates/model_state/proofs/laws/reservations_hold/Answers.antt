use Rattle.model_state.proofs.Calling.{reservations-hold}
use Rattle.model_state.proofs.laws.reservations_hold.Goals as goal

pub returns : goal.returns
returns c = reservations-hold
