use Rattle.way_laws.proofs.Slices.{slices_are_there}
use Rattle.way_laws.proofs.laws.slices_are_there.Goals as goal

pub returns : goal.returns
returns c = slices_are_there
