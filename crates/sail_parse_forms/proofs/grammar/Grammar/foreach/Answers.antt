use Rattle.sail_grammar.proofs.Steps.{exit_stop, stops_row, stops_first, stops_next}
use Rattle.sail_parse_forms.proofs.ControlRows as C
use Rattle.sail_parse_forms.proofs.grammar.Grammar.foreach.Goals as goal

pub returns-in_err-word-clause-stop : goal.returns-in_err-word-clause-stop
returns-in_err-word-clause-stop g c = exit_stop _ c.from_residual.ensures.1 (stops_row (stops_first c.in_err-word.ensures.stop))

pub returns-in_err-after_bracket-clause-stop : goal.returns-in_err-after_bracket-clause-stop
returns-in_err-after_bracket-clause-stop g c =
    exit_stop _ c.from_residual-in_err-after_bracket.ensures.1 (stops_row (stops_next c.in_ok-word.ensures.read
    (stops_first c.in_err-after_bracket.ensures.stop)))

pub returns-in_err-token-clause-stop : goal.returns-in_err-token-clause-stop
returns-in_err-token-clause-stop g c =
    exit_stop _ c.from_residual-in_err-token.ensures.1 (stops_row (stops_next c.in_ok-word.ensures.read
    (stops_next c.in_ok-after_bracket.ensures.read (stops_first c.in_err-token.ensures.stop))))

pub returns-in_err-after_from-clause-stop : goal.returns-in_err-after_from-clause-stop
returns-in_err-after_from-clause-stop g c =
    exit_stop _ c.from_residual-in_err-after_from.ensures.1 (stops_row (stops_next c.in_ok-word.ensures.read
    (stops_next c.in_ok-after_bracket.ensures.read (stops_next c.in_ok-token.ensures.read (stops_first c.in_err-after_from.ensures.stop)))))

pub returns-in_err-from-clause-stop : goal.returns-in_err-from-clause-stop
returns-in_err-from-clause-stop g c =
    exit_stop _ c.from_residual-in_err-from.ensures.1 (stops_row (stops_next c.in_ok-word.ensures.read
    (stops_next c.in_ok-after_bracket.ensures.read (stops_next c.in_ok-token.ensures.read
    (stops_next c.in_ok-after_from.ensures.read (stops_first c.in_err-from.ensures.stop))))))

pub returns-in_err-after_to-clause-stop : goal.returns-in_err-after_to-clause-stop
returns-in_err-after_to-clause-stop g c =
    exit_stop _ c.from_residual-in_err-after_to.ensures.1 (stops_row (stops_next c.in_ok-word.ensures.read
    (stops_next c.in_ok-after_bracket.ensures.read (stops_next c.in_ok-token.ensures.read
    (stops_next c.in_ok-after_from.ensures.read (stops_next c.in_ok-from.ensures.read.ends (stops_first c.in_err-after_to.ensures.stop)))))))

pub returns-in_err-to-clause-stop : goal.returns-in_err-to-clause-stop
returns-in_err-to-clause-stop g c =
    exit_stop _ c.from_residual-in_err-to.ensures.1 (stops_row (stops_next c.in_ok-word.ensures.read
    (stops_next c.in_ok-after_bracket.ensures.read (stops_next c.in_ok-token.ensures.read
    (stops_next c.in_ok-after_from.ensures.read (stops_next c.in_ok-from.ensures.read.ends
    (stops_next c.in_ok-after_to.ensures.read (stops_first c.in_err-to.ensures.stop))))))))

pub returns-in_err-by-clause-stop : goal.returns-in_err-by-clause-stop
returns-in_err-by-clause-stop g c =
    exit_stop _ c.from_residual-in_err-by.ensures.1 (stops_row (stops_next c.in_ok-word.ensures.read
    (stops_next c.in_ok-after_bracket.ensures.read (stops_next c.in_ok-token.ensures.read
    (stops_next c.in_ok-after_from.ensures.read (stops_next c.in_ok-from.ensures.read.ends
    (stops_next c.in_ok-after_to.ensures.read (stops_next c.in_ok-to.ensures.read.ends (stops_first c.in_err-by.ensures.stop)))))))))

pub returns-in_err-direction-clause-stop : goal.returns-in_err-direction-clause-stop
returns-in_err-direction-clause-stop g c =
    exit_stop _ c.from_residual-in_err-direction.ensures.1 (stops_row (stops_next c.in_ok-word.ensures.read
    (stops_next c.in_ok-after_bracket.ensures.read (stops_next c.in_ok-token.ensures.read
    (stops_next c.in_ok-after_from.ensures.read (stops_next c.in_ok-from.ensures.read.ends
    (stops_next c.in_ok-after_to.ensures.read (stops_next c.in_ok-to.ensures.read.ends
    (stops_next c.in_ok-by.ensures.read.ends (stops_first c.in_err-direction.ensures.stop))))))))))

pub returns-in_err-after_close-clause-stop : goal.returns-in_err-after_close-clause-stop
returns-in_err-after_close-clause-stop g c =
    exit_stop _ c.from_residual-in_err-after_close.ensures.1 (stops_row (stops_next c.in_ok-word.ensures.read
    (stops_next c.in_ok-after_bracket.ensures.read (stops_next c.in_ok-token.ensures.read
    (stops_next c.in_ok-after_from.ensures.read (stops_next c.in_ok-from.ensures.read.ends
    (stops_next c.in_ok-after_to.ensures.read (stops_next c.in_ok-to.ensures.read.ends
    (stops_next c.in_ok-by.ensures.read.ends (stops_next c.in_ok-direction.ensures.read.ends (stops_first c.in_err-after_close.ensures.stop)))))))))))

pub returns-in_err-body-clause-stop : goal.returns-in_err-body-clause-stop
returns-in_err-body-clause-stop g c =
    exit_stop _ c.from_residual-in_err-body.ensures.1 (stops_row (stops_next c.in_ok-word.ensures.read
    (stops_next c.in_ok-after_bracket.ensures.read (stops_next c.in_ok-token.ensures.read
    (stops_next c.in_ok-after_from.ensures.read (stops_next c.in_ok-from.ensures.read.ends
    (stops_next c.in_ok-after_to.ensures.read (stops_next c.in_ok-to.ensures.read.ends
    (stops_next c.in_ok-by.ensures.read.ends (stops_next c.in_ok-direction.ensures.read.ends
    (stops_next c.in_ok-after_close.ensures.read c.in_err-body.ensures.stop)))))))))))

pub returns-clause-read : goal.returns-clause-read
returns-clause-read g c =
    C.foreach_all c.in_ok-word.ensures.read c.in_ok-after_bracket.ensures.read c.in_ok-token.ensures.read c.in_ok-after_from.ensures.read
    c.in_ok-from.ensures.read c.in_ok-after_to.ensures.read c.in_ok-to.ensures.read c.in_ok-by.ensures.read c.in_ok-direction.ensures.read
    c.in_ok-after_close.ensures.read c.in_ok-body.ensures.read c.in_ok-name.ensures c.in_ok-range.ensures c.in_ok-made.ensures
