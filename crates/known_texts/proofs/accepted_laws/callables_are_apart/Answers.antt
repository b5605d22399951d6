use Rattle.known_texts.proofs.Constructors.{callables_apart}
use Rattle.known_texts.proofs.Failures.{nothing_fails}
use Rattle.known_texts.proofs.accepted_laws.callables_are_apart.Goals as goal

pub returns : goal.returns
returns c = λ text end accepted. callables_apart text (nothing_fails text end accepted)
