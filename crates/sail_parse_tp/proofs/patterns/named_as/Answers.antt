use Rattle.sail_grammar.proofs.Steps.{exit_stop}
use Rattle.sail_parse_tp.proofs.PatternRows.{as_limited, as_none, as_some, as_stops}
use Rattle.sail_parse_tp.proofs.patterns.named_as.Goals as goal

pub returns-in-Limited-clause-read : goal.returns-in-Limited-clause-read
returns-in-Limited-clause-read c = as_limited c.in-Limited.is

pub returns-in_err-token-in-Some-clause-stop : goal.returns-in_err-token-in-Some-clause-stop
returns-in_err-token-in-Some-clause-stop c =
    exit_stop _ c.from_residual.ensures.1 (as_stops c.in-Full.is c.in-Some.ensures.read c.in_err-token-in-Some.ensures.stop)

pub returns-in_ok-named-in-Some-clause-read : goal.returns-in_ok-named-in-Some-clause-read
returns-in_ok-named-in-Some-clause-read c =
    as_some c.in-Full.is c.in-Some.ensures.read c.in_ok-token-in-Some.ensures.read c.in_ok-name-in-Some.ensures c.in_ok-named-in-Some.ensures

pub returns-in-None-clause-read : goal.returns-in-None-clause-read
returns-in-None-clause-read c = as_none c.in-Full.is c.in-None.ensures.read
