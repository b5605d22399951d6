use Rattle.sail_grammar.proofs.Steps.{exit_stop, stops_row, stops_first, stops_next}
use Rattle.sail_definitions.proofs.FunctionRows.{val_all}
use Rattle.sail_definitions.proofs.functions.val.Goals as goal

pub returns-in_err-word-clause-stop : goal.returns-in_err-word-clause-stop
returns-in_err-word-clause-stop c = exit_stop _ c.from_residual.ensures.1 (stops_row (stops_first c.in_err-word.ensures.stop))

pub returns-in_err-token-clause-stop : goal.returns-in_err-token-clause-stop
returns-in_err-token-clause-stop c =
    exit_stop _ c.from_residual-in_err-token.ensures.1 (stops_row (stops_next c.in_ok-word.ensures.read (stops_first c.in_err-token.ensures.stop)))

pub returns-in_err-after_colon-clause-stop : goal.returns-in_err-after_colon-clause-stop
returns-in_err-after_colon-clause-stop c =
    exit_stop _ c.from_residual-in_err-after_colon.ensures.1 (stops_row
    (stops_next c.in_ok-word.ensures.read (stops_next c.in_ok-token.ensures.read (stops_first c.in_err-after_colon.ensures.stop))))

pub returns-in_err-quantifier-clause-stop : goal.returns-in_err-quantifier-clause-stop
returns-in_err-quantifier-clause-stop c =
    exit_stop _ c.from_residual-in_err-quantifier.ensures.1 (stops_row
    (stops_next c.in_ok-word.ensures.read (stops_next c.in_ok-token.ensures.read
    (stops_next c.in_ok-after_colon.ensures.read (stops_first c.in_err-quantifier.ensures.stop)))))

pub returns-in_err-from-clause-stop : goal.returns-in_err-from-clause-stop
returns-in_err-from-clause-stop c =
    exit_stop _ c.from_residual-in_err-from.ensures.1 (stops_row (stops_next c.in_ok-word.ensures.read
    (stops_next c.in_ok-token.ensures.read (stops_next c.in_ok-after_colon.ensures.read
    (stops_next c.in_ok-quantifier.ensures.read.ends (stops_first c.in_err-from.ensures.stop))))))

pub returns-in_err-sign-clause-stop : goal.returns-in_err-sign-clause-stop
returns-in_err-sign-clause-stop c =
    exit_stop _ c.from_residual-in_err-sign.ensures.1 (stops_row (stops_next c.in_ok-word.ensures.read
    (stops_next c.in_ok-token.ensures.read (stops_next c.in_ok-after_colon.ensures.read
    (stops_next c.in_ok-quantifier.ensures.read.ends (stops_next c.in_ok-from.ensures.read.ends (stops_first c.in_err-sign.ensures.stop)))))))

pub returns-in_err-to-clause-stop : goal.returns-in_err-to-clause-stop
returns-in_err-to-clause-stop c =
    exit_stop _ c.from_residual-in_err-to.ensures.1 (stops_row (stops_next c.in_ok-word.ensures.read
    (stops_next c.in_ok-token.ensures.read (stops_next c.in_ok-after_colon.ensures.read
    (stops_next c.in_ok-quantifier.ensures.read.ends (stops_next c.in_ok-from.ensures.read.ends
    (stops_next c.in_ok-sign.ensures.read c.in_err-to.ensures.stop)))))))

pub returns-clause-read : goal.returns-clause-read
returns-clause-read c =
    val_all c.in_ok-word.ensures.read c.in_ok-token.ensures.read c.in_ok-after_colon.ensures.read c.in_ok-quantifier.ensures.read
    c.in_ok-from.ensures.read c.in_ok-sign.ensures.read c.in_ok-to.ensures.read c.in_ok-name.ensures c.arrow-arrow.ensures
