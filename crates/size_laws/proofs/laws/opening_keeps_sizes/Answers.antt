use Rattle.size_laws.proofs.Opening.{opening_keeps_sizes}
use Rattle.size_laws.proofs.laws.opening_keeps_sizes.Goals as goal

pub returns : goal.returns
returns c = opening_keeps_sizes
