use Rattle.sail_compile.proofs.ModelLemmas.{gathered_accepted, gathered_refused, ungathered_is}
use Rattle.sail_compile.proofs.models.gather_definitions.Goals as goal

pub returns-in-Ok-clause-accepted : goal.returns-in-Ok-clause-accepted
returns-in-Ok-clause-accepted c =
    gathered_accepted c.args.definitions.items c.in-Ok.whole.items c.as_slice.result.now c.as_slice.ensures.value c.in-Ok.ensures.accepted
    c.in-Ok.ensures.gathered c.args.end c.table_definitions.result c.table_definitions.ensures.accepted

pub returns-in-Ok-clause-refused : goal.returns-in-Ok-clause-refused
returns-in-Ok-clause-refused c =
    gathered_refused c.args.definitions.items c.in-Ok.whole.items c.as_slice.result.now c.as_slice.ensures.value c.in-Ok.ensures.accepted
    c.in-Ok.ensures.gathered c.args.end c.table_definitions.result c.table_definitions.ensures.refused

pub returns-in_ok-gather_refusal-in-Err-clause-refused : goal.returns-in_ok-gather_refusal-in-Err-clause-refused
returns-in_ok-gather_refusal-in-Err-clause-refused c =
    ungathered_is c.args.definitions.items c.args.end c.in-Err.error c.in_ok-gather_refusal-in-Err.field-0 c.in-Err.ensures.refused
    c.in_ok-gather_refusal-in-Err.ensures.told c.in_ok-gather_refusal-in-Err.ensures.refused
