use Rattle.known_texts.proofs.Failures.{nothing_fails}
use Rattle.known_texts.proofs.Once.{types_closed}
use Rattle.known_texts.proofs.accepted_laws.types_are_closed.Goals as goal

pub returns : goal.returns
returns c = λ text end cycle accepted. types_closed text (nothing_fails text end accepted) cycle
