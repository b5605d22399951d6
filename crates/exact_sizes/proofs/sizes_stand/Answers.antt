use Rattle.exact_sizes.proofs.Standing.{sizes_stand}
use Rattle.exact_sizes.proofs.sizes_stand.Goals as goal

pub returns : goal.returns
returns c = sizes_stand
