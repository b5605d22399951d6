use Rattle.sail_meaning.proofs.Sentences.{measures_fall, last_is_nearest}
use Rattle.sail_meaning.proofs.laws.measures_fall.Goals as goal

pub returns-clause-fall : goal.returns-clause-fall
returns-clause-fall c = measures_fall

pub returns-clause-nearest : goal.returns-clause-nearest
returns-clause-nearest c = last_is_nearest
