use Rattle.body_meanings.proofs.Standing.{functions_stand}
use Rattle.body_meanings.proofs.laws.functions_stand.Goals as goal

pub returns : goal.returns
returns c = functions_stand
