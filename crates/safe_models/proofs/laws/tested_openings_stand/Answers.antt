use Rattle.safe_models.proofs.Openings.{tested}
use Rattle.safe_models.proofs.laws.tested_openings_stand.Goals as goal

pub returns : goal.returns
returns c = tested
