use Rattle.sail_grammar.proofs.Steps.{exit_stop, stops_row, stops_first, stops_next}
use Rattle.sail_definitions.proofs.ClauseRows.{side_all}
use Rattle.sail_definitions.proofs.clauses.side.Goals as goal

pub returns-in_err-pattern-clause-stop : goal.returns-in_err-pattern-clause-stop
returns-in_err-pattern-clause-stop c = exit_stop _ c.from_residual.ensures.1 (stops_row (stops_first c.in_err-pattern.ensures.stop))

pub returns-in_err-guard-clause-stop : goal.returns-in_err-guard-clause-stop
returns-in_err-guard-clause-stop c =
    exit_stop _ c.from_residual-in_err-guard.ensures.1 (stops_row (stops_next c.in_ok-pattern.ensures.read.ends c.in_err-guard.ensures.stop))

pub returns-clause-read : goal.returns-clause-read
returns-clause-read c = side_all c.in_ok-pattern.ensures.read c.in_ok-guard.ensures.read
