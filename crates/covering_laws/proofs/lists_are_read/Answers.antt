use Rattle.covering_laws.proofs.Bounded.{lists_are_read}
use Rattle.covering_laws.proofs.lists_are_read.Goals as goal

pub returns : goal.returns
returns c = lists_are_read
