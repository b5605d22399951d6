use Rattle.safe_models.proofs.AcceptedOpenings.{accepted}
use Rattle.safe_models.proofs.laws.accepted_openings_fit.Goals as goal

pub returns : goal.returns
returns c = accepted
