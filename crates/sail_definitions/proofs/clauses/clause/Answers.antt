use Rattle.sail_grammar.proofs.Steps.{exit_stop, stops_row, stops_first, stops_next}
use Rattle.sail_definitions.proofs.ClauseRows.{clause_all}
use Rattle.sail_definitions.proofs.clauses.clause.Goals as goal

pub returns-in_err-left-clause-stop : goal.returns-in_err-left-clause-stop
returns-in_err-left-clause-stop c = exit_stop _ c.from_residual.ensures.1 (stops_row (stops_first c.in_err-left.ensures.stop))

pub returns-in_err-after_arrow-clause-stop : goal.returns-in_err-after_arrow-clause-stop
returns-in_err-after_arrow-clause-stop c =
    exit_stop _ c.from_residual-in_err-after_arrow.ensures.1 (stops_row
    (stops_next c.in_ok-left.ensures.read.ends (stops_first c.in_err-after_arrow.ensures.stop)))

pub returns-in_err-right-clause-stop : goal.returns-in_err-right-clause-stop
returns-in_err-right-clause-stop c =
    exit_stop _ c.from_residual-in_err-right.ensures.1 (stops_row (stops_next c.in_ok-left.ensures.read.ends
    (stops_next c.in_ok-after_arrow.ensures.read c.in_err-right.ensures.stop)))

pub returns-clause-read : goal.returns-clause-read
returns-clause-read c =
    clause_all c.place-place.ensures c.in_ok-left.ensures.read c.in_ok-left.ensures.shorter c.in_ok-after_arrow.ensures.read
    c.in_ok-right.ensures.read
