use Rattle.exact_sizes.proofs.Told.{told_hang}
use Rattle.exact_sizes.proofs.told_hang.Goals as goal

pub returns : goal.returns
returns c = told_hang
