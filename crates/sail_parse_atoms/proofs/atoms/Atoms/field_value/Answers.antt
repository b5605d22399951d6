use Rattle.sail_grammar.proofs.Steps.{exit_stop, stops_row, stops_first, stops_next}
use Rattle.sail_parse_atoms.proofs.BlockRows as B
use Rattle.sail_parse_atoms.proofs.atoms.Atoms.field_value.Goals as goal

pub returns-in_err-token-clause-stop : goal.returns-in_err-token-clause-stop
returns-in_err-token-clause-stop g c = exit_stop _ c.from_residual.ensures.1 (stops_row (stops_first c.in_err-token.ensures.stop))

pub returns-in_err-after_equal-clause-stop : goal.returns-in_err-after_equal-clause-stop
returns-in_err-after_equal-clause-stop g c =
    exit_stop _ c.from_residual-in_err-after_equal.ensures.1 (stops_row (stops_next c.in_ok-token.ensures.read (stops_first c.in_err-after_equal.ensures.stop)))

pub returns-in_err-value-clause-stop : goal.returns-in_err-value-clause-stop
returns-in_err-value-clause-stop g c =
    exit_stop _ c.from_residual-in_err-value.ensures.1 (stops_row (stops_next c.in_ok-token.ensures.read
    (stops_next c.in_ok-after_equal.ensures.read c.in_err-value.ensures.stop)))

pub returns-clause-read : goal.returns-clause-read
returns-clause-read g c = B.value_all c.in_ok-token.ensures.read c.in_ok-after_equal.ensures.read c.in_ok-value.ensures.read c.in_ok-name.ensures
