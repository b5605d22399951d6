use Rattle.sail_grammar.proofs.Steps.{exit_stop, stops_row, stops_first, stops_next}
use Rattle.sail_parse_atoms.proofs.AtomRows as A
use Rattle.sail_parse_atoms.proofs.atoms.Atoms.vector.Goals as goal

pub returns-in_err-bracket-clause-stop : goal.returns-in_err-bracket-clause-stop
returns-in_err-bracket-clause-stop g c = exit_stop _ c.from_residual.ensures.1 (stops_row (stops_first c.in_err-bracket.ensures.stop))

pub returns-in_err-first-clause-stop : goal.returns-in_err-first-clause-stop
returns-in_err-first-clause-stop g c =
    exit_stop _ c.from_residual-in_err-first.ensures.1 (stops_row (stops_next c.in_ok-bracket.ensures.read (stops_first c.in_err-first.ensures.stop)))

pub returns-in_err-made-clause-stop : goal.returns-in_err-made-clause-stop
returns-in_err-made-clause-stop g c =
    exit_stop _ c.from_residual-in_err-made.ensures.1 (stops_row (stops_next c.in_ok-bracket.ensures.read
    (stops_next c.in_ok-first.ensures.read.ends (stops_first c.in_err-made.ensures.stop))))

pub returns-in_err-rest-clause-stop : goal.returns-in_err-rest-clause-stop
returns-in_err-rest-clause-stop g c =
    exit_stop _ c.from_residual-in_err-rest.ensures.1 (stops_row (stops_next c.in_ok-bracket.ensures.read
    (stops_next c.in_ok-first.ensures.read.ends (stops_next c.in_ok-made.ensures.read.ends c.in_err-rest.ensures.stop))))

pub returns-clause-read : goal.returns-clause-read
returns-clause-read g c = A.vector_all c.in_ok-bracket.ensures.read c.in_ok-first.ensures.read c.in_ok-made.ensures.read c.in_ok-rest.ensures.read
