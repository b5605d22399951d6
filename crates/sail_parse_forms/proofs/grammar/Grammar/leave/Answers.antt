use Rattle.sail_grammar.proofs.Steps.{exit_stop, stops_row, stops_first, stops_next}
use Rattle.sail_parse_forms.proofs.ControlRows as C
use Rattle.sail_parse_forms.proofs.grammar.Grammar.leave.Goals as goal

pub returns-in_err-word-clause-stop : goal.returns-in_err-word-clause-stop
returns-in_err-word-clause-stop g c = exit_stop _ c.from_residual.ensures.1 (stops_row (stops_first c.in_err-word.ensures.stop))

pub returns-in_err-value-clause-stop : goal.returns-in_err-value-clause-stop
returns-in_err-value-clause-stop g c =
    exit_stop _ c.from_residual-in_err-value.ensures.1 (stops_row (stops_next c.in_ok-word.ensures.read c.in_err-value.ensures.stop))

pub returns-clause-read : goal.returns-clause-read
returns-clause-read g c = C.leave_all c.in_ok-word.ensures.read c.in_ok-value.ensures.read c.leaving_of-leaving.ensures c.in_ok-made.ensures
