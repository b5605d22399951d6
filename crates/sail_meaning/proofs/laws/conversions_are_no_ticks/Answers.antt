use Rattle.sail_meaning.proofs.Sentences.{conversions_are_no_ticks}
use Rattle.sail_meaning.proofs.laws.conversions_are_no_ticks.Goals as goal

pub returns : goal.returns
returns c = conversions_are_no_ticks
