use Rattle.sail_grammar.proofs.Steps.{exit_stop, pass_ok, pass_stop, stops_row, stops_first, stops_next}
use Rattle.sail_parse_expr.proofs.OperatorRows as O
use Rattle.sail_parse_expr.proofs.expressions.Rows.infix_product.Goals as goal

pub returns-in_err-first-clause-stop : goal.returns-in_err-first-clause-stop
returns-in_err-first-clause-stop g c = exit_stop _ c.from_residual.ensures.1 (stops_row (stops_first c.in_err-first.ensures.stop))

pub returns-clause-read : goal.returns-clause-read
returns-clause-read g c = pass_ok _ c.infix_product_more.ensures.read (λ x r. O.product_all c.in_ok-first.ensures.read r)

pub returns-clause-stop : goal.returns-clause-stop
returns-clause-stop g c = pass_stop _ c.infix_product_more.ensures.stop (λ e s. stops_row (stops_next c.in_ok-first.ensures.read.ends s))
