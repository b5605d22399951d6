use Rattle.known_texts.proofs.Failures.{nothing_fails}
use Rattle.known_texts.proofs.Starts.{reset_typed, step_typed}
use Rattle.known_texts.proofs.accepted_laws.entry_points_are_typed.Goals as goal

pub returns : goal.returns
returns c = λ text end accepted.
    let clear = nothing_fails text end accepted in (step_typed text clear.step, reset_typed text clear.reset)
