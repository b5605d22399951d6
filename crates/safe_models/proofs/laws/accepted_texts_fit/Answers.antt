use Rattle.safe_models.proofs.AcceptedFit.{accepted}
use Rattle.safe_models.proofs.laws.accepted_texts_fit.Goals as goal

pub returns : goal.returns
returns c = accepted
