use Rattle.sail_meaning.proofs.Sentences.{counts_down}
use Rattle.sail_meaning.proofs.laws.foreach_counts_down.Goals as goal

pub returns : goal.returns
returns c = counts_down
