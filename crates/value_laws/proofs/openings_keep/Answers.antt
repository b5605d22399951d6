use Rattle.value_laws.proofs.Opening.{opening_kept}
use Rattle.value_laws.proofs.openings_keep.Goals as goal

pub returns : goal.returns
returns c = opening_kept
