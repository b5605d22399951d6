use Rattle.sail_meaning.proofs.Sentences.{throws_take_nothing_back}
use Rattle.sail_meaning.proofs.laws.throws_take_nothing_back.Goals as goal

pub returns : goal.returns
returns c = throws_take_nothing_back
