use Rattle.safe_models.proofs.WaysFall.{ways_of_texts}
use Rattle.safe_models.proofs.laws.ways_of_texts_fall.Goals as goal

pub returns : goal.returns
returns c = ways_of_texts
