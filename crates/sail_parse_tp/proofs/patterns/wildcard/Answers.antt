use Rattle.std.proofs.Common.{refl}
use Rattle.sail_grammar.proofs.Steps.{exit_stop}
use Rattle.sail_parse_tp.proofs.PatternRows.{wildcard_full, wildcard_full_stops, wildcard_limited}
use Rattle.sail_parse_tp.proofs.patterns.wildcard.Goals as goal

pub returns-in-Limited-clause-stop : goal.returns-in-Limited-clause-stop
returns-in-Limited-clause-stop c = wildcard_limited c.args.tokens.now c.in-Limited.is refl

pub returns-in_err-token-in-Full-clause-stop : goal.returns-in_err-token-in-Full-clause-stop
returns-in_err-token-in-Full-clause-stop c = exit_stop _ c.from_residual.ensures.1 (wildcard_full_stops c.in-Full.is
    c.in_err-token-in-Full.ensures.stop)

pub returns-in_ok-token-in-Full-clause-read : goal.returns-in_ok-token-in-Full-clause-read
returns-in_ok-token-in-Full-clause-read c = wildcard_full c.in-Full.is c.in_ok-token-in-Full.ensures.read
