use Rattle.known_texts.proofs.Failures.{nothing_fails}
use Rattle.known_texts.proofs.Openings.{openings_known}
use Rattle.known_texts.proofs.Parts.{tuples_have_parts}
use Rattle.known_texts.proofs.known_laws.openings_are_known.Goals as goal

pub returns : goal.returns
returns c = λ text end accepted is_written. openings_known text (nothing_fails text end accepted) is_written (tuples_have_parts text is_written)
