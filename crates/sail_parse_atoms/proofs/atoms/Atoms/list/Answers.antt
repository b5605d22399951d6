use Rattle.sail_grammar.proofs.Steps.{exit_stop, stops_row, stops_first, stops_next}
use Rattle.sail_parse_atoms.proofs.AtomRows as A
use Rattle.sail_parse_atoms.proofs.atoms.Atoms.list.Goals as goal

pub returns-in_err-bracket-clause-stop : goal.returns-in_err-bracket-clause-stop
returns-in_err-bracket-clause-stop g c = exit_stop _ c.from_residual.ensures.1 (stops_row (stops_first c.in_err-bracket.ensures.stop))

pub returns-in_err-items-clause-stop : goal.returns-in_err-items-clause-stop
returns-in_err-items-clause-stop g c =
    exit_stop _ c.from_residual-in_err-items.ensures.1 (stops_row (stops_next c.in_ok-bracket.ensures.read c.in_err-items.ensures.stop))

pub returns-clause-read : goal.returns-clause-read
returns-clause-read g c = A.list_all c.in_ok-bracket.ensures.read c.in_ok-items.ensures.read c.in_ok-made.ensures
