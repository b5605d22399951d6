use Rattle.standing_cores.proofs.Found.{found_stand}
use Rattle.standing_cores.proofs.laws.found_cores_stand.Goals as goal

pub returns : goal.returns
returns c = found_stand
