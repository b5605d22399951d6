use Rattle.sail_grammar.proofs.Steps.{exit_stop, more_stops}
use Rattle.sail_parse_forms.proofs.PartRows as P
use Rattle.sail_parse_forms.proofs.parts.type_if.Goals as goal

pub returns-in_err-typ-in-Some-clause-stop : goal.returns-in_err-typ-in-Some-clause-stop
returns-in_err-typ-in-Some-clause-stop c = exit_stop _ c.from_residual.ensures.1 (more_stops c.in-Some.ensures.read c.in_err-typ-in-Some.ensures.stop)

pub returns-in_ok-typ-in-Some-clause-read : goal.returns-in_ok-typ-in-Some-clause-read
returns-in_ok-typ-in-Some-clause-read c = P.type_if_some c.in-Some.ensures.read c.in_ok-typ-in-Some.ensures.read

pub returns-in-None-clause-read : goal.returns-in-None-clause-read
returns-in-None-clause-read c = P.type_if_none c.in-None.ensures.read
