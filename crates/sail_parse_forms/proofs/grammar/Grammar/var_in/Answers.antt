use Rattle.sail_grammar.proofs.Steps.{exit_stop, stops_row, stops_first, stops_next}
use Rattle.sail_parse_forms.proofs.FormRows as E
use Rattle.sail_parse_forms.proofs.grammar.Grammar.var_in.Goals as goal

pub returns-in_err-word-clause-stop : goal.returns-in_err-word-clause-stop
returns-in_err-word-clause-stop g c = exit_stop _ c.from_residual.ensures.1 (stops_row (stops_first c.in_err-word.ensures.stop))

pub returns-in_err-token-clause-stop : goal.returns-in_err-token-clause-stop
returns-in_err-token-clause-stop g c =
    exit_stop _ c.from_residual-in_err-token.ensures.1 (stops_row (stops_next c.in_ok-word.ensures.read (stops_first c.in_err-token.ensures.stop)))

pub returns-in_err-typ-clause-stop : goal.returns-in_err-typ-clause-stop
returns-in_err-typ-clause-stop g c =
    exit_stop _ c.from_residual-in_err-typ.ensures.1 (stops_row (stops_next c.in_ok-word.ensures.read
    (stops_next c.in_ok-token.ensures.read (stops_first c.in_err-typ.ensures.stop))))

pub returns-in_err-after_equal-clause-stop : goal.returns-in_err-after_equal-clause-stop
returns-in_err-after_equal-clause-stop g c =
    exit_stop _ c.from_residual-in_err-after_equal.ensures.1 (stops_row (stops_next c.in_ok-word.ensures.read
    (stops_next c.in_ok-token.ensures.read (stops_next c.in_ok-typ.ensures.read.ends (stops_first c.in_err-after_equal.ensures.stop)))))

pub returns-in_err-initial-clause-stop : goal.returns-in_err-initial-clause-stop
returns-in_err-initial-clause-stop g c =
    exit_stop _ c.from_residual-in_err-initial.ensures.1 (stops_row (stops_next c.in_ok-word.ensures.read
    (stops_next c.in_ok-token.ensures.read (stops_next c.in_ok-typ.ensures.read.ends
    (stops_next c.in_ok-after_equal.ensures.read (stops_first c.in_err-initial.ensures.stop))))))

pub returns-in_err-after_in-clause-stop : goal.returns-in_err-after_in-clause-stop
returns-in_err-after_in-clause-stop g c =
    exit_stop _ c.from_residual-in_err-after_in.ensures.1 (stops_row (stops_next c.in_ok-word.ensures.read
    (stops_next c.in_ok-token.ensures.read (stops_next c.in_ok-typ.ensures.read.ends
    (stops_next c.in_ok-after_equal.ensures.read (stops_next c.in_ok-initial.ensures.read.ends (stops_first c.in_err-after_in.ensures.stop)))))))

pub returns-in_err-body-clause-stop : goal.returns-in_err-body-clause-stop
returns-in_err-body-clause-stop g c =
    exit_stop _ c.from_residual-in_err-body.ensures.1 (stops_row (stops_next c.in_ok-word.ensures.read
    (stops_next c.in_ok-token.ensures.read (stops_next c.in_ok-typ.ensures.read.ends
    (stops_next c.in_ok-after_equal.ensures.read (stops_next c.in_ok-initial.ensures.read.ends
    (stops_next c.in_ok-after_in.ensures.read c.in_err-body.ensures.stop)))))))

pub returns-clause-read : goal.returns-clause-read
returns-clause-read g c =
    E.var_all c.in_ok-word.ensures.read c.in_ok-token.ensures.read c.in_ok-typ.ensures.read c.in_ok-after_equal.ensures.read c.in_ok-initial.ensures.read
    c.in_ok-after_in.ensures.read c.in_ok-body.ensures.read c.in_ok-name.ensures c.in_ok-made.ensures
