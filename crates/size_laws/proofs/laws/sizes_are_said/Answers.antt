use Rattle.size_laws.proofs.Said.{sizes_are_said}
use Rattle.size_laws.proofs.laws.sizes_are_said.Goals as goal

pub returns : goal.returns
returns c = sizes_are_said
