use Rattle.standing_cores.proofs.Standing.{stands_as}
use Rattle.standing_cores.proofs.laws.standing_is.Goals as goal

pub returns : goal.returns
returns c = stands_as
