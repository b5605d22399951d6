use Rattle.sail_parse_forms.proofs.PartRows as P
use Rattle.sail_parse_forms.proofs.parts.name_if.Goals as goal

pub returns-in_ok-name-in-Some-clause-read : goal.returns-in_ok-name-in-Some-clause-read
returns-in_ok-name-in-Some-clause-read c = P.name_some c.in-Some.ensures.read c.in_ok-name-in-Some.ensures

pub returns-in-None-clause-read : goal.returns-in-None-clause-read
returns-in-None-clause-read c = P.name_none c.in-None.ensures.read
