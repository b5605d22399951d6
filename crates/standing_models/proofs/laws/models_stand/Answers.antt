use Rattle.standing_models.proofs.Models.{models_placed}
use Rattle.standing_models.proofs.laws.models_stand.Goals as goal

pub returns : goal.returns
returns c = models_placed
