use Rattle.known_texts.proofs.Failures.{nothing_fails}
use Rattle.known_texts.proofs.Types.{types_known}
use Rattle.known_texts.proofs.Vals.{vals_signed}
use Rattle.known_texts.proofs.Signed.{each_signed}
use Rattle.known_texts.proofs.known_laws.definitions_are_signed.Goals as goal

pub returns : goal.returns
returns c = λ text end accepted is_written.
    let clear = nothing_fails text end accepted in
    let known = types_known text clear.types in
    each_signed text clear known (vals_signed text known 0 text clear.bodies) is_written
