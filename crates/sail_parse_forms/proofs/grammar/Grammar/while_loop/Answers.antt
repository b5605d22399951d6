use Rattle.sail_grammar.proofs.Steps.{exit_stop, stops_row, stops_first, stops_next}
use Rattle.sail_parse_forms.proofs.ControlRows as C
use Rattle.sail_parse_forms.proofs.grammar.Grammar.while_loop.Goals as goal

pub returns-in_err-word-clause-stop : goal.returns-in_err-word-clause-stop
returns-in_err-word-clause-stop g c = exit_stop _ c.from_residual.ensures.1 (stops_row (stops_first c.in_err-word.ensures.stop))

pub returns-in_err-measure-clause-stop : goal.returns-in_err-measure-clause-stop
returns-in_err-measure-clause-stop g c =
    exit_stop _ c.from_residual-in_err-measure.ensures.1 (stops_row (stops_next c.in_ok-word.ensures.read (stops_first c.in_err-measure.ensures.stop)))

pub returns-in_err-condition-clause-stop : goal.returns-in_err-condition-clause-stop
returns-in_err-condition-clause-stop g c =
    exit_stop _ c.from_residual-in_err-condition.ensures.1 (stops_row (stops_next c.in_ok-word.ensures.read
    (stops_next c.in_ok-measure.ensures.read.ends (stops_first c.in_err-condition.ensures.stop))))

pub returns-in_err-after_do-clause-stop : goal.returns-in_err-after_do-clause-stop
returns-in_err-after_do-clause-stop g c =
    exit_stop _ c.from_residual-in_err-after_do.ensures.1 (stops_row (stops_next c.in_ok-word.ensures.read
    (stops_next c.in_ok-measure.ensures.read.ends (stops_next c.in_ok-condition.ensures.read.ends (stops_first c.in_err-after_do.ensures.stop)))))

pub returns-in_err-body-clause-stop : goal.returns-in_err-body-clause-stop
returns-in_err-body-clause-stop g c =
    exit_stop _ c.from_residual-in_err-body.ensures.1 (stops_row (stops_next c.in_ok-word.ensures.read
    (stops_next c.in_ok-measure.ensures.read.ends (stops_next c.in_ok-condition.ensures.read.ends
    (stops_next c.in_ok-after_do.ensures.read c.in_err-body.ensures.stop)))))

pub returns-clause-read : goal.returns-clause-read
returns-clause-read g c =
    C.while_all c.in_ok-word.ensures.read c.in_ok-measure.ensures.read c.in_ok-condition.ensures.read c.in_ok-after_do.ensures.read
    c.in_ok-body.ensures.read c.in_ok-made.ensures
