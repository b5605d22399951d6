use Rattle.safe_models.proofs.Texts.{texts_safe}
use Rattle.safe_models.proofs.laws.texts_run_safely.Goals as goal

pub returns : goal.returns
returns c = texts_safe
