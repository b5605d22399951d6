use Rattle.known_texts.proofs.Failures.{nothing_fails}
use Rattle.known_texts.proofs.Assembled.{definitions_known}
use Rattle.known_texts.proofs.Parts.{tuples_have_parts}
use Rattle.known_texts.proofs.known_laws.definitions_are_known.Goals as goal

pub returns : goal.returns
returns c = λ text end accepted kept is_written.
    definitions_known text (nothing_fails text end accepted) is_written (tuples_have_parts text is_written) kept
