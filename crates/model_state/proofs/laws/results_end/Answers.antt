use Rattle.model_state.proofs.Ending.{results_end}
use Rattle.model_state.proofs.laws.results_end.Goals as goal

pub returns : goal.returns
returns c = results_end
