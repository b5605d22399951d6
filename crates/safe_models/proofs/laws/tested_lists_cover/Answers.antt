use Rattle.safe_models.proofs.Covered.{lists_cover}
use Rattle.safe_models.proofs.laws.tested_lists_cover.Goals as goal

pub returns : goal.returns
returns c = lists_cover c.models_are_read.ensures
