use Rattle.safe_models.proofs.Cores.{ways}
use Rattle.safe_models.proofs.laws.ways_stand.Goals as goal

pub returns : goal.returns
returns c = ways
