use Rattle.sail_compile.proofs.ModelLemmas.{closed_accepted, closed_refused, unclosed_tells}
use Rattle.sail_compile.proofs.models.check_definitions.Goals as goal

pub returns-in-Ok-clause-accepted : goal.returns-in-Ok-clause-accepted
returns-in-Ok-clause-accepted c = λ is run.
    closed_accepted c.args.definitions.now c.args.core is c.in-Ok.certified c.in-Ok.ensures c.size_definitions.result
    (λ closed. c.size_definitions.ensures.accepted closed run)

pub returns-in-Ok-clause-refused : goal.returns-in-Ok-clause-refused
returns-in-Ok-clause-refused c = λ is.
    closed_refused c.args.definitions.now c.args.core is c.in-Ok.certified c.in-Ok.ensures c.size_definitions.result
    c.size_definitions.ensures.refused

pub returns-in_ok-check_refusal-in-Err-clause-refused : goal.returns-in_ok-check_refusal-in-Err-clause-refused
returns-in_ok-check_refusal-in-Err-clause-refused c =
    unclosed_tells c.args.definitions.now c.args.core c.in-Err.error c.in_ok-check_refusal-in-Err.field-0 c.in-Err.ensures
    c.in_ok-check_refusal-in-Err.ensures.told c.in_ok-check_refusal-in-Err.ensures.refused
