use Rattle.fitting_laws.proofs.Deep.{fitting}
use Rattle.fitting_laws.proofs.laws.fitting_suffices.Goals as goal

pub returns : goal.returns
returns c = fitting
