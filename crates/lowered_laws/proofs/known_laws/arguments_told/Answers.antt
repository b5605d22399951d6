use Rattle.lowered_laws.proofs.ToldArguments.{arguments_told}
use Rattle.lowered_laws.proofs.known_laws.arguments_told.Goals as goal

pub returns : goal.returns
returns c = arguments_told
