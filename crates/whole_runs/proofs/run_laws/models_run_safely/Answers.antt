use Rattle.whole_runs.proofs.Safe.{safe}
use Rattle.whole_runs.proofs.run_laws.models_run_safely.Goals as goal

pub returns : goal.returns
returns c = safe c.models_are_alike.ensures c.models_keep.ensures
