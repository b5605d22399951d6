use Rattle.exact_sizes.proofs.Among.{sizes_hang}
use Rattle.exact_sizes.proofs.sizes_hang.Goals as goal

pub returns : goal.returns
returns c = sizes_hang
