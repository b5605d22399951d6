use Rattle.safe_models.proofs.Mappings.{mappings_closed}
use Rattle.safe_models.proofs.laws.mappings_are_closed.Goals as goal

pub returns : goal.returns
returns c = mappings_closed
