use Rattle.sail_grammar.proofs.Steps.{exit_stop, stops_row, stops_first, stops_next}
use Rattle.sail_parse_forms.proofs.FormRows as E
use Rattle.sail_parse_forms.proofs.grammar.Grammar.if_exp.Goals as goal

pub returns-in_err-word-clause-stop : goal.returns-in_err-word-clause-stop
returns-in_err-word-clause-stop g c = exit_stop _ c.from_residual.ensures.1 (stops_row (stops_first c.in_err-word.ensures.stop))

pub returns-in_err-condition-clause-stop : goal.returns-in_err-condition-clause-stop
returns-in_err-condition-clause-stop g c =
    exit_stop _ c.from_residual-in_err-condition.ensures.1 (stops_row (stops_next c.in_ok-word.ensures.read (stops_first c.in_err-condition.ensures.stop)))

pub returns-in_err-after_then-clause-stop : goal.returns-in_err-after_then-clause-stop
returns-in_err-after_then-clause-stop g c =
    exit_stop _ c.from_residual-in_err-after_then.ensures.1 (stops_row (stops_next c.in_ok-word.ensures.read
    (stops_next c.in_ok-condition.ensures.read.ends (stops_first c.in_err-after_then.ensures.stop))))

pub returns-in_err-first-clause-stop : goal.returns-in_err-first-clause-stop
returns-in_err-first-clause-stop g c =
    exit_stop _ c.from_residual-in_err-first.ensures.1 (stops_row (stops_next c.in_ok-word.ensures.read
    (stops_next c.in_ok-condition.ensures.read.ends (stops_next c.in_ok-after_then.ensures.read (stops_first c.in_err-first.ensures.stop)))))

pub returns-in_err-other-clause-stop : goal.returns-in_err-other-clause-stop
returns-in_err-other-clause-stop g c =
    exit_stop _ c.from_residual-in_err-other.ensures.1 (stops_row (stops_next c.in_ok-word.ensures.read
    (stops_next c.in_ok-condition.ensures.read.ends (stops_next c.in_ok-after_then.ensures.read
    (stops_next c.in_ok-first.ensures.read.ends c.in_err-other.ensures.stop)))))

pub returns-clause-read : goal.returns-clause-read
returns-clause-read g c =
    E.if_all c.in_ok-word.ensures.read c.in_ok-condition.ensures.read c.in_ok-after_then.ensures.read c.in_ok-first.ensures.read c.in_ok-other.ensures.read
    c.in_ok-made.ensures
