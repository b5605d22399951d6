use Rattle.sail_grammar.proofs.Steps.{exit_stop, stops_row, stops_first, stops_next}
use Rattle.sail_parse_expr.proofs.OperatorRows as O
use Rattle.sail_parse_expr.proofs.expressions.Rows.negation.Goals as goal

pub returns-in_err-sign-clause-stop : goal.returns-in_err-sign-clause-stop
returns-in_err-sign-clause-stop g c = exit_stop _ c.from_residual.ensures.1 (stops_row (stops_first c.in_err-sign.ensures.stop))

pub returns-in_err-operand-clause-stop : goal.returns-in_err-operand-clause-stop
returns-in_err-operand-clause-stop g c =
    exit_stop _ c.from_residual-in_err-operand.ensures.1 (stops_row (stops_next c.in_ok-sign.ensures.read c.in_err-operand.ensures.stop))

pub returns-clause-read : goal.returns-clause-read
returns-clause-read g c = O.negation_all c.in_ok-sign.ensures.read c.in_ok-operand.ensures.read c.in_ok-made.ensures
