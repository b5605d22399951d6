use Rattle.sail_grammar.proofs.Steps.{exit_stop, stops_row, stops_first, stops_next, more_stops}
use Rattle.sail_parse_forms.proofs.ControlRows as C
use Rattle.sail_parse_forms.proofs.grammar.Grammar.loop_measure.Goals as goal

pub returns-in_err-after_bracket-in-Some-clause-stop : goal.returns-in_err-after_bracket-in-Some-clause-stop
returns-in_err-after_bracket-in-Some-clause-stop g c =
    exit_stop _ c.from_residual.ensures.1 (stops_row (more_stops c.in-Some.ensures.read (stops_first c.in_err-after_bracket-in-Some.ensures.stop)))

pub returns-in_err-measure-in-Some-clause-stop : goal.returns-in_err-measure-in-Some-clause-stop
returns-in_err-measure-in-Some-clause-stop g c =
    exit_stop _ c.from_residual-in_err-measure-in-Some.ensures.1 (stops_row (more_stops c.in-Some.ensures.read
    (stops_next c.in_ok-after_bracket-in-Some.ensures.read (stops_first c.in_err-measure-in-Some.ensures.stop))))

pub returns-in_err-rest-in-Some-clause-stop : goal.returns-in_err-rest-in-Some-clause-stop
returns-in_err-rest-in-Some-clause-stop g c =
    exit_stop _ c.from_residual-in_err-rest-in-Some.ensures.1 (stops_row (more_stops c.in-Some.ensures.read
    (stops_next c.in_ok-after_bracket-in-Some.ensures.read (stops_next c.in_ok-measure-in-Some.ensures.read.ends c.in_err-rest-in-Some.ensures.stop))))

pub returns-in_ok-rest-in-Some-clause-read : goal.returns-in_ok-rest-in-Some-clause-read
returns-in_ok-rest-in-Some-clause-read g c =
    C.measure_some c.in-Some.ensures.read c.in_ok-after_bracket-in-Some.ensures.read c.in_ok-measure-in-Some.ensures.read c.in_ok-rest-in-Some.ensures.read

pub returns-in-None-clause-read : goal.returns-in-None-clause-read
returns-in-None-clause-read g c = C.measure_none c.in-None.ensures.read
