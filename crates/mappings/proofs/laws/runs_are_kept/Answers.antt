use Rattle.mappings.proofs.FreeModels.{runs_kept}
use Rattle.mappings.proofs.laws.runs_are_kept.Goals as goal

pub returns : goal.returns
returns c start = runs_kept
