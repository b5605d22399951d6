use Rattle.match_rewrite.proofs.FlatModels.{runs_kept}
use Rattle.match_rewrite.proofs.laws.runs_are_kept.Goals as goal

pub returns : goal.returns
returns c start = runs_kept
