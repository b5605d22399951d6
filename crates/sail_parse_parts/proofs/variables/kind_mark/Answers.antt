use Rattle.sail_grammar.proofs.Steps.{exit_stop, stops_row, more_stops}
use Rattle.sail_parse_parts.proofs.VariableRows.{kind_some, kind_none}
use Rattle.sail_parse_parts.proofs.variables.kind_mark.Goals as goal

pub returns-in_err-token-in-Some-clause-stop : goal.returns-in_err-token-in-Some-clause-stop
returns-in_err-token-in-Some-clause-stop c =
    exit_stop _ c.from_residual.ensures.1 (stops_row (more_stops c.in-Some.ensures.read c.in_err-token-in-Some.ensures.stop))

pub returns-in_ok-token-in-Some-clause-read : goal.returns-in_ok-token-in-Some-clause-read
returns-in_ok-token-in-Some-clause-read c = kind_some c.in-Some.ensures.read c.in_ok-token-in-Some.ensures.read c.kind_spelled.ensures

pub returns-in-None-clause-read : goal.returns-in-None-clause-read
returns-in-None-clause-read c = kind_none c.in-None.ensures.read
