use Rattle.known_texts.proofs.Failures.{nothing_fails}
use Rattle.known_texts.proofs.Registers.{registers_typed}
use Rattle.known_texts.proofs.Types.{types_known}
use Rattle.known_texts.proofs.accepted_laws.registers_are_typed.Goals as goal

pub returns : goal.returns
returns c = λ text end accepted.
    let clear = nothing_fails text end accepted in registers_typed text (types_known text clear.types) 0 text clear.bodies
