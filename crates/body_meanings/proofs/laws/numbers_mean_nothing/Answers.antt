use Rattle.body_meanings.proofs.Numbers.{numbers_mean_nothing}
use Rattle.body_meanings.proofs.laws.numbers_mean_nothing.Goals as goal

pub returns : goal.returns
returns c = numbers_mean_nothing
