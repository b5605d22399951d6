use Rattle.way_laws.proofs.Fields.{fields_are_there}
use Rattle.way_laws.proofs.laws.fields_are_there.Goals as goal

pub returns : goal.returns
returns c = fields_are_there
