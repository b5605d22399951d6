use Rattle.sail_grammar.proofs.Steps.{exit_stop, pass_ok, pass_stop, stops_row, stops_first, stops_next, more_stops}
use Rattle.sail_parse_expr.proofs.OperatorRows as O
use Rattle.sail_parse_expr.proofs.expressions.Rows.+infix_product_more.Goals as goal

pub returns-in_err-right-in-Some-clause-stop : goal.returns-in_err-right-in-Some-clause-stop
returns-in_err-right-in-Some-clause-stop g t c =
    exit_stop _ c.from_residual.ensures.1 (stops_row (more_stops c.in-Some.ensures.read (stops_first c.in_err-right-in-Some.ensures.stop)))

pub returns-in_ok-made-in-Some-clause-read : goal.returns-in_ok-made-in-Some-clause-read
returns-in_ok-made-in-Some-clause-read g t c =
    pass_ok _ c.infix_product_more.ensures.read (λ x r. O.product_some c.in-Some.ensures.read c.in_ok-right-in-Some.ensures.read
    c.operator_of-operator.ensures c.in_ok-made-in-Some.ensures r)

pub returns-in_ok-made-in-Some-clause-stop : goal.returns-in_ok-made-in-Some-clause-stop
returns-in_ok-made-in-Some-clause-stop g t c =
    pass_stop _ c.infix_product_more.ensures.stop (λ e s. stops_row (more_stops c.in-Some.ensures.read (stops_next c.in_ok-right-in-Some.ensures.read.ends s)))

pub returns-in-None-clause-read : goal.returns-in-None-clause-read
returns-in-None-clause-read g t c = O.product_none c.in-None.ensures.read
