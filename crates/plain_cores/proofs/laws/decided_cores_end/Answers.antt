use Rattle.plain_cores.proofs.Decided.{core_inside}
use Rattle.plain_cores.proofs.laws.decided_cores_end.Goals as goal

pub returns : goal.returns
returns c = core_inside
