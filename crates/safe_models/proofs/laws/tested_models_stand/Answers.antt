use Rattle.safe_models.proofs.Models.{tested}
use Rattle.safe_models.proofs.laws.tested_models_stand.Goals as goal

pub returns : goal.returns
returns c = tested
