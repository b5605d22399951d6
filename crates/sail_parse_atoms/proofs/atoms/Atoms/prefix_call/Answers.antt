use Rattle.sail_grammar.proofs.Steps.{exit_stop, stops_row, stops_first, stops_next}
use Rattle.sail_parse_atoms.proofs.AtomRows as A
use Rattle.sail_parse_atoms.proofs.atoms.Atoms.prefix_call.Goals as goal

pub returns-in_err-word-clause-stop : goal.returns-in_err-word-clause-stop
returns-in_err-word-clause-stop g c = exit_stop _ c.from_residual.ensures.1 (stops_row (stops_first c.in_err-word.ensures.stop))

pub returns-in_err-after_bracket-clause-stop : goal.returns-in_err-after_bracket-clause-stop
returns-in_err-after_bracket-clause-stop g c =
    exit_stop _ c.from_residual-in_err-after_bracket.ensures.1 (stops_row (stops_next c.in_ok-word.ensures.read
    (stops_first c.in_err-after_bracket.ensures.stop)))

pub returns-in_err-operand-clause-stop : goal.returns-in_err-operand-clause-stop
returns-in_err-operand-clause-stop g c =
    exit_stop _ c.from_residual-in_err-operand.ensures.1 (stops_row (stops_next c.in_ok-word.ensures.read
    (stops_next c.in_ok-after_bracket.ensures.read (stops_first c.in_err-operand.ensures.stop))))

pub returns-in_err-rest-clause-stop : goal.returns-in_err-rest-clause-stop
returns-in_err-rest-clause-stop g c =
    exit_stop _ c.from_residual-in_err-rest.ensures.1 (stops_row (stops_next c.in_ok-word.ensures.read
    (stops_next c.in_ok-after_bracket.ensures.read (stops_next c.in_ok-operand.ensures.read.ends c.in_err-rest.ensures.stop))))

pub returns-clause-read : goal.returns-clause-read
returns-clause-read g c =
    A.prefix_all c.in_ok-word.ensures.read c.in_ok-after_bracket.ensures.read c.in_ok-operand.ensures.read c.in_ok-rest.ensures.read
    c.prefix_of-prefix.ensures c.in_ok-made.ensures
