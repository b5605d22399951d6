use Rattle.std.proofs.Common.{◌++◌, [], ◌∷◌, ◌∙◌}
use Rattle.sail_grammar.proofs.Steps.{exit_stop, stops_row, stops_first, stops_next, more_stops}
use Rattle.sail_parse_parts.proofs.VariableRows.{parameters_some, parameters_none}
use Rattle.sail_parse_parts.proofs.variables.parameters.Goals as goal

pub returns-in_err-first-in-Some-clause-stop : goal.returns-in_err-first-in-Some-clause-stop
returns-in_err-first-in-Some-clause-stop c =
    exit_stop _ c.from_residual.ensures.1 (stops_row (more_stops c.in-Some.ensures.read (stops_first c.in_err-first-in-Some.ensures.stop)))

pub returns-in_err-list-in-Some-clause-stop : goal.returns-in_err-list-in-Some-clause-stop
returns-in_err-list-in-Some-clause-stop c =
    exit_stop _ c.from_residual-in_err-list-in-Some.ensures.1 (stops_row
    (more_stops c.in-Some.ensures.read (stops_next c.in_ok-first-in-Some.ensures.read.ends (stops_first c.in_err-list-in-Some.ensures.stop))))

pub returns-in_err-rest-in-Some-clause-stop : goal.returns-in_err-rest-in-Some-clause-stop
returns-in_err-rest-in-Some-clause-stop c =
    exit_stop _ c.from_residual-in_err-rest-in-Some.ensures.1 (stops_row
    (more_stops c.in-Some.ensures.read (stops_next c.in_ok-first-in-Some.ensures.read.ends
    (stops_next c.in_ok-list-in-Some.ensures.read.ends c.in_err-rest-in-Some.ensures.stop))))

pub returns-in_ok-rest-in-Some-clause-read : goal.returns-in_ok-rest-in-Some-clause-read
returns-in_ok-rest-in-Some-clause-read c =
    parameters_some c.in-Some.ensures.read c.in_ok-first-in-Some.ensures.read
    (c.in_ok-push-in-Some.ensures.pushed ∙ (λ i. c.new-list.ensures i ++ c.in_ok-first-in-Some.first ∷ [])) c.in_ok-list-in-Some.ensures.read
    c.in_ok-rest-in-Some.ensures.read

pub returns-in-None-clause-read : goal.returns-in-None-clause-read
returns-in-None-clause-read c = parameters_none c.in-None.ensures.read c.new.ensures
