use Rattle.module_meanings.proofs.Whole.{modules_start}
use Rattle.module_meanings.proofs.modules_start.Goals as goal

pub returns : goal.returns
returns c = modules_start c.modules_are_valid.ensures.valid
