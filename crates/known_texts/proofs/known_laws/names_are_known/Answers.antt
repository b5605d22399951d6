use Rattle.known_texts.proofs.Failures.{nothing_fails}
use Rattle.known_texts.proofs.Assembled.{known_here, known_plainly}
use Rattle.known_texts.proofs.Parts.{tuples_have_parts}
use Rattle.known_texts.proofs.known_laws.names_are_known.Goals as goal

pub returns : goal.returns
returns c = λ text end accepted is_written variables names known within.
    let clear = nothing_fails text end accepted in
    let parts = tuples_have_parts text is_written in (
      λ answer whole. known_here text clear is_written parts variables answer names known within whole,
      known_plainly text clear is_written parts variables names known within,
    )
