use Rattle.lowered_laws.proofs.ReadInstances.{instances_read}
use Rattle.lowered_laws.proofs.known_laws.instances_read.Goals as goal

pub returns : goal.returns
returns c = instances_read
