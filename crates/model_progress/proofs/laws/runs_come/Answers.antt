use Rattle.model_progress.proofs.Runs.{runs_come}
use Rattle.model_progress.proofs.laws.runs_come.Goals as goal

pub returns : goal.returns
returns c = runs_come
