use Rattle.sail_grammar.proofs.Steps.{exit_stop, more_stops}
use Rattle.sail_parse_expr.proofs.OperatorRows as O
use Rattle.sail_parse_expr.proofs.expressions.Rows.slice_end.Goals as goal

pub returns-in_err-last-in-Some-clause-stop : goal.returns-in_err-last-in-Some-clause-stop
returns-in_err-last-in-Some-clause-stop g c = exit_stop _ c.from_residual.ensures.1 (more_stops c.in-Some.ensures.read c.in_err-last-in-Some.ensures.stop)

pub returns-in_ok-last-in-Some-clause-read : goal.returns-in_ok-last-in-Some-clause-read
returns-in_ok-last-in-Some-clause-read g c = O.slice_some c.in-Some.ensures.read c.in_ok-last-in-Some.ensures.read

pub returns-in-None-clause-read : goal.returns-in-None-clause-read
returns-in-None-clause-read g c = O.slice_none c.in-None.ensures.read
