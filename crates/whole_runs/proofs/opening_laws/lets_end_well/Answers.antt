use Rattle.whole_runs.proofs.Lets.{lets_end}
use Rattle.whole_runs.proofs.opening_laws.lets_end_well.Goals as goal

pub returns : goal.returns
returns c = lets_end
