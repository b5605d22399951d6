use Rattle.exact_sizes.proofs.Had.{values_fit}
use Rattle.exact_sizes.proofs.values_fit.Goals as goal

pub returns : goal.returns
returns c = values_fit
