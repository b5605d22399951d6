use Rattle.way_laws.proofs.Items.{items_are_there}
use Rattle.way_laws.proofs.laws.items_are_there.Goals as goal

pub returns : goal.returns
returns c = items_are_there
