use Rattle.known_texts.proofs.Failures.{nothing_fails}
use Rattle.known_texts.proofs.Types.{types_known}
use Rattle.known_texts.proofs.Vals.{vals_signed}
use Rattle.known_texts.proofs.accepted_laws.vals_give_signatures.Goals as goal

pub returns : goal.returns
returns c = λ text end accepted.
    let clear = nothing_fails text end accepted in vals_signed text (types_known text clear.types) 0 text clear.bodies
