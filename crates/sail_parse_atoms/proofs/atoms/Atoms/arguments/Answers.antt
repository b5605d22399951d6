use Rattle.sail_grammar.proofs.Steps.{exit_stop, stops_first, stops_next}
use Rattle.sail_parse_atoms.proofs.AtomRows as A
use Rattle.sail_parse_atoms.proofs.atoms.Atoms.arguments.Goals as goal

pub returns-in-Some-clause-read : goal.returns-in-Some-clause-read
returns-in-Some-clause-read g c = A.arguments_none c.in-Some.ensures.read c.new.ensures

pub returns-in_err-items-in-None-clause-stop : goal.returns-in_err-items-in-None-clause-stop
returns-in_err-items-in-None-clause-stop g c =
    exit_stop _ c.from_residual.ensures.1 (A.arguments_stops c.in-None.ensures.read (stops_first c.in_err-items-in-None.ensures.stop))

pub returns-in_err-rest-in-None-clause-stop : goal.returns-in_err-rest-in-None-clause-stop
returns-in_err-rest-in-None-clause-stop g c =
    exit_stop _ c.from_residual-in_err-rest-in-None.ensures.1 (A.arguments_stops c.in-None.ensures.read
    (stops_next c.in_ok-items-in-None.ensures.read.ends c.in_err-rest-in-None.ensures.stop))

pub returns-in_ok-rest-in-None-clause-read : goal.returns-in_ok-rest-in-None-clause-read
returns-in_ok-rest-in-None-clause-read g c = A.arguments_some c.in-None.ensures.read c.in_ok-items-in-None.ensures.read c.in_ok-rest-in-None.ensures.read
