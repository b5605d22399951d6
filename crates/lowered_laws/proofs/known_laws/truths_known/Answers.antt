use Rattle.lowered_laws.proofs.KnownTruths.{truths_known}
use Rattle.lowered_laws.proofs.known_laws.truths_known.Goals as goal

pub returns : goal.returns
returns c = truths_known
