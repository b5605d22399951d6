use Rattle.safe_models.proofs.PatternsPass.{patterns_pass}
use Rattle.safe_models.proofs.laws.patterns_of_texts_pass.Goals as goal

pub returns : goal.returns
returns c = patterns_pass
