use Rattle.sail_grammar.proofs.Steps.{exit_stop, stops_first, stops_next}
use Rattle.sail_parse_parts.proofs.VariableRows.{quantifier_some, quantifier_none, quantifier_stops}
use Rattle.sail_parse_parts.proofs.variables.quantifier.Goals as goal

pub returns-in_err-variables-in-Some-clause-stop : goal.returns-in_err-variables-in-Some-clause-stop
returns-in_err-variables-in-Some-clause-stop c =
    exit_stop _ c.from_residual.ensures.1 (quantifier_stops c.in-Some.ensures.read (stops_first c.in_err-variables-in-Some.ensures.stop))

pub returns-in_err-constraint-in-Some-clause-stop : goal.returns-in_err-constraint-in-Some-clause-stop
returns-in_err-constraint-in-Some-clause-stop c =
    exit_stop _ c.from_residual-in_err-constraint-in-Some.ensures.1 (quantifier_stops c.in-Some.ensures.read
    (stops_next c.in_ok-variables-in-Some.ensures.read.ends (stops_first c.in_err-constraint-in-Some.ensures.stop)))

pub returns-in_err-rest-in-Some-clause-stop : goal.returns-in_err-rest-in-Some-clause-stop
returns-in_err-rest-in-Some-clause-stop c =
    exit_stop _ c.from_residual-in_err-rest-in-Some.ensures.1 (quantifier_stops c.in-Some.ensures.read
    (stops_next c.in_ok-variables-in-Some.ensures.read.ends (stops_next c.in_ok-constraint-in-Some.ensures.read.ends
    c.in_err-rest-in-Some.ensures.stop)))

pub returns-in_ok-rest-in-Some-clause-read : goal.returns-in_ok-rest-in-Some-clause-read
returns-in_ok-rest-in-Some-clause-read c =
    quantifier_some c.in-Some.ensures.read c.new.ensures c.in_ok-variables-in-Some.ensures.read c.in_ok-constraint-in-Some.ensures.read
    c.in_ok-rest-in-Some.ensures.read

pub returns-in-None-clause-read : goal.returns-in-None-clause-read
returns-in-None-clause-read c = quantifier_none c.in-None.ensures.read c.new-variables.ensures
