use Rattle.known_texts.proofs.Failures.{nothing_fails}
use Rattle.known_texts.proofs.Once.{names_once}
use Rattle.known_texts.proofs.accepted_laws.names_stand_once.Goals as goal

pub returns : goal.returns
returns c = λ text end accepted. names_once text (nothing_fails text end accepted)
