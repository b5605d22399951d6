use Rattle.safe_models.proofs.FittingTexts.{fitting}
use Rattle.safe_models.proofs.laws.fitting_texts_stand.Goals as goal

pub returns : goal.returns
returns c = fitting
