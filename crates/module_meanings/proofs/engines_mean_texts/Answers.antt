use Rattle.module_meanings.proofs.Texts.{engines_mean}
use Rattle.module_meanings.proofs.engines_mean_texts.Goals as goal

pub returns : goal.returns
returns c = engines_mean c.machines_mean_texts.ensures
