use Rattle.sail_compile.proofs.ModelLemmas.{tabled_accepted, tabled_refused, untabled_is}
use Rattle.sail_compile.proofs.models.table_definitions.Goals as goal

pub returns-in-Ok-clause-accepted : goal.returns-in-Ok-clause-accepted
returns-in-Ok-clause-accepted c =
    tabled_accepted c.args.definitions.now c.args.end c.in-Ok.ensures.accepted c.shape_definitions.result
    (c.shape_definitions.ensures.accepted c.args.definitions.now c.args.end c.in-Ok.ensures.tables)

pub returns-in-Ok-clause-refused : goal.returns-in-Ok-clause-refused
returns-in-Ok-clause-refused c =
    tabled_refused c.args.definitions.now c.args.end c.in-Ok.ensures.accepted c.shape_definitions.result
    (c.shape_definitions.ensures.refused c.args.definitions.now c.args.end c.in-Ok.ensures.tables)

pub returns-in_ok-table_refusal-in-Err-clause-refused : goal.returns-in_ok-table_refusal-in-Err-clause-refused
returns-in_ok-table_refusal-in-Err-clause-refused c =
    untabled_is c.args.definitions.now c.args.end c.in-Err.error c.in_ok-table_refusal-in-Err.field-0 c.in-Err.ensures.refused
    c.in_ok-table_refusal-in-Err.ensures.told c.in_ok-table_refusal-in-Err.ensures.refused
