use Rattle.sail_grammar.proofs.Steps.{exit_stop, stops_row, stops_first, stops_next}
use Rattle.sail_definitions.proofs.DefinitionRows.{order_all}
use Rattle.sail_definitions.proofs.definition.order.Goals as goal

pub returns-in_err-word-clause-stop : goal.returns-in_err-word-clause-stop
returns-in_err-word-clause-stop c = exit_stop _ c.from_residual.ensures.1 (stops_row (stops_first c.in_err-word.ensures.stop))

pub returns-in_err-after_order-clause-stop : goal.returns-in_err-after_order-clause-stop
returns-in_err-after_order-clause-stop c =
    exit_stop _ c.from_residual-in_err-after_order.ensures.1 (stops_row
    (stops_next c.in_ok-word.ensures.read (stops_first c.in_err-after_order.ensures.stop)))

pub returns-in_err-rest-clause-stop : goal.returns-in_err-rest-clause-stop
returns-in_err-rest-clause-stop c =
    exit_stop _ c.from_residual-in_err-rest.ensures.1 (stops_row (stops_next c.in_ok-word.ensures.read
    (stops_next c.in_ok-after_order.ensures.read c.in_err-rest.ensures.stop)))

pub returns-clause-read : goal.returns-clause-read
returns-clause-read c = order_all c.in_ok-word.ensures.read c.in_ok-after_order.ensures.read c.in_ok-rest.ensures.read
