use Rattle.covering_laws.proofs.Across.{models_are_read}
use Rattle.covering_laws.proofs.models_are_read.Goals as goal

pub returns : goal.returns
returns c = models_are_read
