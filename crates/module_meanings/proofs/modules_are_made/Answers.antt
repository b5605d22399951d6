use Rattle.module_meanings.proofs.Whole.{modules_made}
use Rattle.module_meanings.proofs.modules_are_made.Goals as goal

pub returns : goal.returns
returns c = modules_made c.models_agree.ensures.agree c.modules_are_valid.ensures.valid
