use Rattle.model_progress.proofs.Opened.{openings_go_on}
use Rattle.model_progress.proofs.laws.openings_go_on.Goals as goal

pub returns : goal.returns
returns c = openings_go_on
