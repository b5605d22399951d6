use Rattle.model_state.proofs.Bytes.{reads-hold}
use Rattle.model_state.proofs.laws.reads_hold.Goals as goal

pub returns : goal.returns
returns c = reads-hold
