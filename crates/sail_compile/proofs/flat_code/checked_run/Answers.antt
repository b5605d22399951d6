use Rattle.sail_compile.proofs.RunLemmas.{certified_code}
use Rattle.sail_compile.proofs.flat_code.checked_run.Goals as goal

pub returns-in-Ok : goal.returns-in-Ok
returns-in-Ok c =
    certified_code c.args.core c.into_core.result c.in-Ok.certified c.zeroed_run.result c.in-Ok.ensures c.into_core.ensures c.zeroed_run.ensures

pub returns-in-Err : goal.returns-in-Err
returns-in-Err c = c.unless_open.ensures c.args.core c.in-Err.ensures
