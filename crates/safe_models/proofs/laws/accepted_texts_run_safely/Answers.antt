use Rattle.safe_models.proofs.Listed.{accepted_safe}
use Rattle.safe_models.proofs.laws.accepted_texts_run_safely.Goals as goal

pub returns : goal.returns
returns c = accepted_safe c.listed_models_run_safely.ensures
