use Rattle.lowered_types.proofs.Standing.{parts_known}
use Rattle.lowered_types.proofs.laws.parts_known.Goals as goal

pub returns : goal.returns
returns c = parts_known
