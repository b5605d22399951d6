use Rattle.sail_grammar.proofs.Steps.{exit_stop, stops_first, stops_next}
use Rattle.sail_parse_expr.proofs.OperatorRows as O
use Rattle.sail_parse_expr.proofs.operators.field.Goals as goal

pub returns-in_err-after_dot-clause-stop : goal.returns-in_err-after_dot-clause-stop
returns-in_err-after_dot-clause-stop c = exit_stop _ c.from_residual.ensures.1 (stops_first c.in_err-after_dot.ensures.stop)

pub returns-in_err-token-clause-stop : goal.returns-in_err-token-clause-stop
returns-in_err-token-clause-stop c =
    exit_stop _ c.from_residual-in_err-token.ensures.1 (stops_next c.in_ok-after_dot.ensures.read c.in_err-token.ensures.stop)

pub returns-clause-read : goal.returns-clause-read
returns-clause-read c = O.field_all c.in_ok-after_dot.ensures.read c.in_ok-token.ensures.read c.in_ok-name.ensures
