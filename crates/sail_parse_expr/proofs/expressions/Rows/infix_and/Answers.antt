use Rattle.sail_grammar.proofs.Steps.{exit_stop, stops_row, stops_first, some_stops}
use Rattle.sail_parse_expr.proofs.OperatorRows as O
use Rattle.sail_parse_expr.proofs.expressions.Rows.infix_and.Goals as goal

pub returns-in_err-left-clause-stop : goal.returns-in_err-left-clause-stop
returns-in_err-left-clause-stop g c = exit_stop _ c.from_residual.ensures.1 (stops_row (stops_first c.in_err-left.ensures.stop))

pub returns-in_err-right-in-Some-clause-stop : goal.returns-in_err-right-in-Some-clause-stop
returns-in_err-right-in-Some-clause-stop g c =
    exit_stop _ c.from_residual-in_err-right-in-Some.ensures.1 (stops_row (some_stops c.in_ok-left.ensures.read.ends c.in-Some.ensures.read
    c.in_err-right-in-Some.ensures.stop))

pub returns-in_ok-made-in-Some-clause-read : goal.returns-in_ok-made-in-Some-clause-read
returns-in_ok-made-in-Some-clause-read g c =
    O.and_some c.in_ok-left.ensures.read c.in-Some.ensures.read c.in_ok-right-in-Some.ensures.read c.operator_of-operator.ensures c.in_ok-made-in-Some.ensures

pub returns-in-None-clause-read : goal.returns-in-None-clause-read
returns-in-None-clause-read g c = O.and_none c.in_ok-left.ensures.read c.in-None.ensures.read
