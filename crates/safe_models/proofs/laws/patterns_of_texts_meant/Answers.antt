use Rattle.safe_models.proofs.PatternNames.{patterns_meant}
use Rattle.safe_models.proofs.laws.patterns_of_texts_meant.Goals as goal

pub returns : goal.returns
returns c = patterns_meant
