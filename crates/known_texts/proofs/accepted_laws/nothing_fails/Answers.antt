use Rattle.known_texts.proofs.Failures.{nothing_fails}
use Rattle.known_texts.proofs.Types.{types_known}
use Rattle.known_texts.proofs.accepted_laws.nothing_fails.Goals as goal

pub returns-clause-nothing : goal.returns-clause-nothing
returns-clause-nothing c = nothing_fails

pub returns-clause-types : goal.returns-clause-types
returns-clause-types c = λ text end accepted. types_known text (nothing_fails text end accepted).types
