use Rattle.sail_grammar.proofs.Steps.{exit_stop, stops_row, stops_first, stops_next}
use Rattle.sail_parse_expr.proofs.OperatorRows as O
use Rattle.sail_parse_expr.proofs.expressions.Rows.index.Goals as goal

pub returns-in_err-bracket-clause-stop : goal.returns-in_err-bracket-clause-stop
returns-in_err-bracket-clause-stop g c = exit_stop _ c.from_residual.ensures.1 (stops_row (stops_first c.in_err-bracket.ensures.stop))

pub returns-in_err-first-clause-stop : goal.returns-in_err-first-clause-stop
returns-in_err-first-clause-stop g c =
    exit_stop _ c.from_residual-in_err-first.ensures.1 (stops_row (stops_next c.in_ok-bracket.ensures.read (stops_first c.in_err-first.ensures.stop)))

pub returns-in_err-last-clause-stop : goal.returns-in_err-last-clause-stop
returns-in_err-last-clause-stop g c =
    exit_stop _ c.from_residual-in_err-last.ensures.1 (stops_row (stops_next c.in_ok-bracket.ensures.read
    (stops_next c.in_ok-first.ensures.read.ends (stops_first c.in_err-last.ensures.stop))))

pub returns-in_err-rest-clause-stop : goal.returns-in_err-rest-clause-stop
returns-in_err-rest-clause-stop g c =
    exit_stop _ c.from_residual-in_err-rest.ensures.1 (stops_row (stops_next c.in_ok-bracket.ensures.read
    (stops_next c.in_ok-first.ensures.read.ends (stops_next c.in_ok-last.ensures.read.ends c.in_err-rest.ensures.stop))))

pub returns-clause-read : goal.returns-clause-read
returns-clause-read g c = O.index_all c.in_ok-bracket.ensures.read c.in_ok-first.ensures.read c.in_ok-last.ensures.read c.in_ok-rest.ensures.read
