use Rattle.sail_grammar.proofs.Steps.{exit_stop, stops_row, stops_first, stops_next}
use Rattle.sail_definitions.proofs.FunctionRows.{function_all}
use Rattle.sail_definitions.proofs.functions.function.Goals as goal

pub returns-in_err-word-clause-stop : goal.returns-in_err-word-clause-stop
returns-in_err-word-clause-stop c = exit_stop _ c.from_residual.ensures.1 (stops_row (stops_first c.in_err-word.ensures.stop))

pub returns-in_err-token-clause-stop : goal.returns-in_err-token-clause-stop
returns-in_err-token-clause-stop c =
    exit_stop _ c.from_residual-in_err-token.ensures.1 (stops_row (stops_next c.in_ok-word.ensures.read
    (stops_next c.clause_word-is_clause.ensures.read.ends (stops_first c.in_err-token.ensures.stop))))

pub returns-in_err-parameters-clause-stop : goal.returns-in_err-parameters-clause-stop
returns-in_err-parameters-clause-stop c =
    exit_stop _ c.from_residual-in_err-parameters.ensures.1 (stops_row
    (stops_next c.in_ok-word.ensures.read (stops_next c.clause_word-is_clause.ensures.read.ends
    (stops_next c.in_ok-token.ensures.read (stops_first c.in_err-parameters.ensures.stop)))))

pub returns-in_err-outcome-clause-stop : goal.returns-in_err-outcome-clause-stop
returns-in_err-outcome-clause-stop c =
    exit_stop _ c.from_residual-in_err-outcome.ensures.1 (stops_row (stops_next c.in_ok-word.ensures.read
    (stops_next c.clause_word-is_clause.ensures.read.ends (stops_next c.in_ok-token.ensures.read
    (stops_next c.in_ok-parameters.ensures.read.ends (stops_first c.in_err-outcome.ensures.stop))))))

pub returns-in_err-after_sign-clause-stop : goal.returns-in_err-after_sign-clause-stop
returns-in_err-after_sign-clause-stop c =
    exit_stop _ c.from_residual-in_err-after_sign.ensures.1 (stops_row
    (stops_next c.in_ok-word.ensures.read (stops_next c.clause_word-is_clause.ensures.read.ends
    (stops_next c.in_ok-token.ensures.read (stops_next c.in_ok-parameters.ensures.read.ends
    (stops_next c.in_ok-outcome.ensures.read.ends (stops_first c.in_err-after_sign.ensures.stop)))))))

pub returns-in_err-body-clause-stop : goal.returns-in_err-body-clause-stop
returns-in_err-body-clause-stop c =
    exit_stop _ c.from_residual-in_err-body.ensures.1 (stops_row (stops_next c.in_ok-word.ensures.read
    (stops_next c.clause_word-is_clause.ensures.read.ends (stops_next c.in_ok-token.ensures.read
    (stops_next c.in_ok-parameters.ensures.read.ends (stops_next c.in_ok-outcome.ensures.read.ends
    (stops_next c.in_ok-after_sign.ensures.read c.in_err-body.ensures.stop)))))))

pub returns-clause-read : goal.returns-clause-read
returns-clause-read c =
    function_all c.in_ok-word.ensures.read c.clause_word-is_clause.ensures.read c.in_ok-token.ensures.read c.in_ok-parameters.ensures.read
    c.in_ok-outcome.ensures.read c.in_ok-after_sign.ensures.read c.in_ok-body.ensures.read c.in_ok-name.ensures c.in_ok-definition.ensures
