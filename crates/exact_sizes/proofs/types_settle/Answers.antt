use Rattle.exact_sizes.proofs.Settling.{types_settle}
use Rattle.exact_sizes.proofs.types_settle.Goals as goal

pub returns : goal.returns
returns c = types_settle
