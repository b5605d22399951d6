use Rattle.sail_grammar.proofs.Steps.{exit_stop, stops_row, stops_first, stops_next}
use Rattle.sail_parse_forms.proofs.FormRows as E
use Rattle.sail_parse_forms.proofs.grammar.Grammar.match_exp.Goals as goal

pub returns-in_err-word-clause-stop : goal.returns-in_err-word-clause-stop
returns-in_err-word-clause-stop g c = exit_stop _ c.from_residual.ensures.1 (stops_row (stops_first c.in_err-word.ensures.stop))

pub returns-in_err-value-clause-stop : goal.returns-in_err-value-clause-stop
returns-in_err-value-clause-stop g c =
    exit_stop _ c.from_residual-in_err-value.ensures.1 (stops_row (stops_next c.in_ok-word.ensures.read (stops_first c.in_err-value.ensures.stop)))

pub returns-in_err-cases-clause-stop : goal.returns-in_err-cases-clause-stop
returns-in_err-cases-clause-stop g c =
    exit_stop _ c.from_residual-in_err-cases.ensures.1 (stops_row (stops_next c.in_ok-word.ensures.read
    (stops_next c.in_ok-value.ensures.read.ends c.in_err-cases.ensures.stop)))

pub returns-clause-read : goal.returns-clause-read
returns-clause-read g c = E.match_all c.in_ok-word.ensures.read c.in_ok-value.ensures.read c.in_ok-cases.ensures.read c.in_ok-made.ensures
