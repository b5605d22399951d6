use Rattle.std.proofs.lemmas.Result.{err_from_is_err_and}
use Rattle.shape_clauses.specs.Functions.{cycle_in}
use Rattle.sail_compile.proofs.ModelLemmas.{shaped_accepted, shaped_refused, unshaped_is}
use Rattle.sail_compile.proofs.models.shape_definitions.Goals as goal

pub returns-in_ok-again-in-Ok-clause-accepted : goal.returns-in_ok-again-in-Ok-clause-accepted
returns-in_ok-again-in-Ok-clause-accepted c = λ text end are.
    let made = c.in-Ok.ensures.resolved text end are in
    shaped_accepted text c.args.tables.definitions.now are.definitions made.accepted c.in-Ok.core (cycle_in c.args.tables text, made.core)
    c.in_ok-again-in-Ok.again (c.in_ok-again-in-Ok.ensures.core text end are) c.check_definitions.result c.check_definitions.ensures.accepted

pub returns-in_ok-again-in-Ok-clause-refused : goal.returns-in_ok-again-in-Ok-clause-refused
returns-in_ok-again-in-Ok-clause-refused c = λ text end are.
    let made = c.in-Ok.ensures.resolved text end are in
    shaped_refused text c.args.tables.definitions.now are.definitions made.accepted c.in-Ok.core (cycle_in c.args.tables text, made.core)
    c.check_definitions.result c.check_definitions.ensures.refused

pub returns-in_ok-shape_refusal-in-Err-clause-refused : goal.returns-in_ok-shape_refusal-in-Err-clause-refused
returns-in_ok-shape_refusal-in-Err-clause-refused c = λ text end are.
    unshaped_is text c.in-Err.error c.in_ok-shape_refusal-in-Err.field-0 (c.in-Err.ensures.refused text end are)
    c.in_ok-shape_refusal-in-Err.ensures.told (c.in_ok-shape_refusal-in-Err.ensures.refused text end are)

pub returns-in_err-again-in-Ok-clause-refused : goal.returns-in_err-again-in-Ok-clause-refused
returns-in_err-again-in-Ok-clause-refused c = λ text end are.
    let p = err_from_is_err_and c.from_residual.result c.from_residual.ensures.1 in
    rw (p.1, p.2) (c.in_err-again-in-Ok.ensures.refused text)
