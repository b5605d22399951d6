use Rattle.sail_meaning.proofs.Sentences.{blocks_are_nests}
use Rattle.sail_meaning.proofs.laws.blocks_are_nests.Goals as goal

pub returns : goal.returns
returns c = blocks_are_nests
