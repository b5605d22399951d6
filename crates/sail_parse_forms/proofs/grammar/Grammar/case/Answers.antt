use Rattle.sail_grammar.proofs.Steps.{exit_stop, stops_row, stops_first, stops_next}
use Rattle.sail_parse_forms.proofs.FormRows as E
use Rattle.sail_parse_forms.proofs.grammar.Grammar.case.Goals as goal

pub returns-in_err-pattern-clause-stop : goal.returns-in_err-pattern-clause-stop
returns-in_err-pattern-clause-stop g c = exit_stop _ c.from_residual.ensures.1 (stops_row (stops_first c.in_err-pattern.ensures.stop))

pub returns-in_err-guard-clause-stop : goal.returns-in_err-guard-clause-stop
returns-in_err-guard-clause-stop g c =
    exit_stop _ c.from_residual-in_err-guard.ensures.1 (stops_row (stops_next c.in_ok-pattern.ensures.read.ends (stops_first c.in_err-guard.ensures.stop)))

pub returns-in_err-after_arrow-clause-stop : goal.returns-in_err-after_arrow-clause-stop
returns-in_err-after_arrow-clause-stop g c =
    exit_stop _ c.from_residual-in_err-after_arrow.ensures.1 (stops_row (stops_next c.in_ok-pattern.ensures.read.ends
    (stops_next c.in_ok-guard.ensures.read.ends (stops_first c.in_err-after_arrow.ensures.stop))))

pub returns-in_err-body-clause-stop : goal.returns-in_err-body-clause-stop
returns-in_err-body-clause-stop g c =
    exit_stop _ c.from_residual-in_err-body.ensures.1 (stops_row (stops_next c.in_ok-pattern.ensures.read.ends
    (stops_next c.in_ok-guard.ensures.read.ends (stops_next c.in_ok-after_arrow.ensures.read c.in_err-body.ensures.stop))))

pub returns-clause-read : goal.returns-clause-read
returns-clause-read g c = E.case_all c.in_ok-pattern.ensures.read c.in_ok-guard.ensures.read c.in_ok-after_arrow.ensures.read c.in_ok-body.ensures.read
