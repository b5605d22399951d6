use Rattle.safe_models.proofs.FoundModels.{models_stand}
use Rattle.safe_models.proofs.laws.models_of_texts_stand.Goals as goal

pub returns : goal.returns
returns c = models_stand
