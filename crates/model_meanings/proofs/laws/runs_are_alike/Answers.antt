use Rattle.model_meanings.proofs.Runs.{runs_are_alike}
use Rattle.model_meanings.proofs.laws.runs_are_alike.Goals as goal

pub returns : goal.returns
returns c = runs_are_alike
