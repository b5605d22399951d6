use Rattle.exact_sizes.proofs.Telling.{types_tell}
use Rattle.exact_sizes.proofs.types_tell.Goals as goal

pub returns : goal.returns
returns c = types_tell
