use Rattle.sail_grammar.proofs.Steps.{exit_stop, more_stops}
use Rattle.sail_parse_forms.proofs.ControlRows as C
use Rattle.sail_parse_forms.proofs.control.direction.Goals as goal

pub returns-in_err-way-in-Some-clause-stop : goal.returns-in_err-way-in-Some-clause-stop
returns-in_err-way-in-Some-clause-stop c = exit_stop _ c.from_residual.ensures.1 (more_stops c.in-Some.ensures.read c.in_err-way-in-Some.ensures.stop)

pub returns-in_ok-way-in-Some-clause-read : goal.returns-in_ok-way-in-Some-clause-read
returns-in_ok-way-in-Some-clause-read c = C.direction_some c.in-Some.ensures.read c.in_ok-way-in-Some.ensures.read c.direction_of.ensures

pub returns-in-None-clause-read : goal.returns-in-None-clause-read
returns-in-None-clause-read c = C.direction_none c.in-None.ensures.read
