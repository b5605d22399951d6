use Rattle.sail_grammar.proofs.Steps.{exit_stop, stops_first, stops_next, more_stops}
use Rattle.sail_definitions.proofs.ClauseRows.{sides_some, sides_none}
use Rattle.sail_definitions.proofs.clauses.sides.Goals as goal

pub returns-in_err-left-in-Some-clause-stop : goal.returns-in_err-left-in-Some-clause-stop
returns-in_err-left-in-Some-clause-stop c =
    exit_stop _ c.from_residual.ensures.1 (more_stops c.in-Some.ensures.read (stops_first c.in_err-left-in-Some.ensures.stop))

pub returns-in_err-after_arrow-in-Some-clause-stop : goal.returns-in_err-after_arrow-in-Some-clause-stop
returns-in_err-after_arrow-in-Some-clause-stop c =
    exit_stop _ c.from_residual-in_err-after_arrow-in-Some.ensures.1
    (more_stops c.in-Some.ensures.read (stops_next c.in_ok-left-in-Some.ensures.read.ends
    (stops_first c.in_err-after_arrow-in-Some.ensures.stop)))

pub returns-in_err-right-in-Some-clause-stop : goal.returns-in_err-right-in-Some-clause-stop
returns-in_err-right-in-Some-clause-stop c =
    exit_stop _ c.from_residual-in_err-right-in-Some.ensures.1 (more_stops c.in-Some.ensures.read
    (stops_next c.in_ok-left-in-Some.ensures.read.ends (stops_next c.in_ok-after_arrow-in-Some.ensures.read c.in_err-right-in-Some.ensures.stop)))

pub returns-in_ok-right-in-Some-clause-read : goal.returns-in_ok-right-in-Some-clause-read
returns-in_ok-right-in-Some-clause-read c =
    sides_some c.in-Some.ensures.read c.in_ok-left-in-Some.ensures.read c.in_ok-after_arrow-in-Some.ensures.read c.in_ok-right-in-Some.ensures.read

pub returns-in-None-clause-read : goal.returns-in-None-clause-read
returns-in-None-clause-read c = sides_none c.in-None.ensures.read
