use Rattle.lowered_laws.proofs.KnownSizes.{sizes_known}
use Rattle.lowered_laws.proofs.known_laws.sizes_known.Goals as goal

pub returns : goal.returns
returns c = sizes_known
