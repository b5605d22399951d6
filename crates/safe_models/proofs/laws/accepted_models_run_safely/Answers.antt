use Rattle.safe_models.proofs.Accepted.{accepted_safe}
use Rattle.safe_models.proofs.laws.accepted_models_run_safely.Goals as goal

pub returns : goal.returns
returns c = accepted_safe c.obligations_of_accepted_texts_hold.ensures c.accepted_cores_run_safely.ensures
