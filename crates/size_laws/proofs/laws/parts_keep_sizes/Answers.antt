use Rattle.size_laws.proofs.Parts.{parts_keep_sizes}
use Rattle.size_laws.proofs.laws.parts_keep_sizes.Goals as goal

pub returns : goal.returns
returns c = parts_keep_sizes
