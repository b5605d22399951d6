use Rattle.lowered_types.proofs.Standing.{types_have}
use Rattle.lowered_types.proofs.laws.types_have.Goals as goal

pub returns : goal.returns
returns c = types_have
