use Rattle.sail_grammar.proofs.Steps.{exit_stop, stops_row, stops_first, stops_next}
use Rattle.sail_parse_expr.proofs.OperatorRows as O
use Rattle.sail_parse_expr.proofs.expressions.Rows.postfix.Goals as goal

pub returns-in_err-base-clause-stop : goal.returns-in_err-base-clause-stop
returns-in_err-base-clause-stop g c = exit_stop _ c.from_residual.ensures.1 (stops_row (stops_first c.in_err-base.ensures.stop))

pub returns-in_err-list-clause-stop : goal.returns-in_err-list-clause-stop
returns-in_err-list-clause-stop g c =
    exit_stop _ c.from_residual-in_err-list.ensures.1 (stops_row (stops_next c.in_ok-base.ensures.read.ends c.in_err-list.ensures.stop))

pub returns-clause-read : goal.returns-clause-read
returns-clause-read g c =
    O.postfix_all c.place-place.ensures c.in_ok-base.ensures.read c.in_ok-base.ensures.shorter (O.suffixes_start c.new.ensures c.in_ok-list.ensures.read)
    c.in_ok-made.ensures
