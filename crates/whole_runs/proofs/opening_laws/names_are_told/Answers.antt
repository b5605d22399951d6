use Rattle.whole_runs.proofs.Told.{names_told}
use Rattle.whole_runs.proofs.opening_laws.names_are_told.Goals as goal

pub returns : goal.returns
returns c = names_told
