use Rattle.sail_grammar.proofs.Steps.{exit_stop, stops_row, stops_first, stops_next}
use Rattle.sail_definitions.proofs.FunctionRows.{let_definition_all}
use Rattle.sail_definitions.proofs.functions.let_definition.Goals as goal

pub returns-in_err-word-clause-stop : goal.returns-in_err-word-clause-stop
returns-in_err-word-clause-stop c = exit_stop _ c.from_residual.ensures.1 (stops_row (stops_first c.in_err-word.ensures.stop))

pub returns-in_err-pattern-clause-stop : goal.returns-in_err-pattern-clause-stop
returns-in_err-pattern-clause-stop c =
    exit_stop _ c.from_residual-in_err-pattern.ensures.1 (stops_row (stops_next c.in_ok-word.ensures.read
    (stops_first c.in_err-pattern.ensures.stop)))

pub returns-in_err-after_sign-clause-stop : goal.returns-in_err-after_sign-clause-stop
returns-in_err-after_sign-clause-stop c =
    exit_stop _ c.from_residual-in_err-after_sign.ensures.1 (stops_row
    (stops_next c.in_ok-word.ensures.read (stops_next c.in_ok-pattern.ensures.read.ends (stops_first c.in_err-after_sign.ensures.stop))))

pub returns-in_err-value-clause-stop : goal.returns-in_err-value-clause-stop
returns-in_err-value-clause-stop c =
    exit_stop _ c.from_residual-in_err-value.ensures.1 (stops_row (stops_next c.in_ok-word.ensures.read
    (stops_next c.in_ok-pattern.ensures.read.ends (stops_next c.in_ok-after_sign.ensures.read c.in_err-value.ensures.stop))))

pub returns-clause-read : goal.returns-clause-read
returns-clause-read c =
    let_definition_all c.in_ok-word.ensures.read c.in_ok-pattern.ensures.read c.in_ok-after_sign.ensures.read c.in_ok-value.ensures.read
