use Rattle.size_laws.proofs.Telling.{opening_tells_sizes}
use Rattle.size_laws.proofs.laws.opening_tells_sizes.Goals as goal

pub returns : goal.returns
returns c = opening_tells_sizes
