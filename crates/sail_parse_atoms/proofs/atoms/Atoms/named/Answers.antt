use Rattle.sail_grammar.proofs.Steps.{exit_stop, stops_row, stops_first, some_stops}
use Rattle.sail_parse_atoms.proofs.AtomRows as A
use Rattle.sail_parse_atoms.proofs.atoms.Atoms.named.Goals as goal

pub returns-in_err-token-clause-stop : goal.returns-in_err-token-clause-stop
returns-in_err-token-clause-stop g c = exit_stop _ c.from_residual.ensures.1 (stops_row (stops_first c.in_err-token.ensures.stop))

pub returns-in_err-items-in-Some-clause-stop : goal.returns-in_err-items-in-Some-clause-stop
returns-in_err-items-in-Some-clause-stop g c =
    exit_stop _ c.from_residual-in_err-items-in-Some.ensures.1 (stops_row (some_stops c.in_ok-token.ensures.read c.in-Some.ensures.read
    c.in_err-items-in-Some.ensures.stop))

pub returns-in_ok-made-in-Some-clause-read : goal.returns-in_ok-made-in-Some-clause-read
returns-in_ok-made-in-Some-clause-read g c =
    A.named_some c.in_ok-token.ensures.read c.in-Some.ensures.read c.in_ok-items-in-Some.ensures.read c.in_ok-name-in-Some.ensures c.in_ok-made-in-Some.ensures

pub returns-in_ok-made-in-None-clause-read : goal.returns-in_ok-made-in-None-clause-read
returns-in_ok-made-in-None-clause-read g c =
    A.named_none c.in_ok-token.ensures.read c.in-None.ensures.read c.in_ok-name-in-None.ensures c.in_ok-made-in-None.ensures
