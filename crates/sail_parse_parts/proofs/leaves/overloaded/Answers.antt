use Rattle.std.proofs.Common.{sym, ◌∙◌}
use Rattle.sail_grammar.proofs.Steps.{exit_stop, stops_first, stops_next}
use Rattle.sail_parse_parts.proofs.LeafRows.{overloaded_name, overloaded_operator, overloaded_name_stops}
use Rattle.sail_parse_parts.proofs.LeafRows.{overloaded_operator_stops}
use Rattle.sail_parse_parts.proofs.leaves.overloaded.Goals as goal

pub returns-in_err-token-clause-stop : goal.returns-in_err-token-clause-stop
returns-in_err-token-clause-stop c =
    exit_stop _ c.from_residual.ensures.1 (overloaded_name_stops (sym c.sees_identifier.ensures ∙ c.if-sees_identifier.true)
    c.in_err-token.ensures.stop)

pub returns-in_ok-name-clause-read : goal.returns-in_ok-name-clause-read
returns-in_ok-name-clause-read c =
    overloaded_name (sym c.sees_identifier.ensures ∙ c.if-sees_identifier.true) c.in_ok-token.ensures.read c.in_ok-name.ensures

pub returns-in_err-after_word-clause-stop : goal.returns-in_err-after_word-clause-stop
returns-in_err-after_word-clause-stop c =
    exit_stop _ c.from_residual-in_err-after_word.ensures.1 (overloaded_operator_stops (sym c.sees_identifier.ensures ∙ c.if-sees_identifier.false)
    (stops_first c.in_err-after_word.ensures.stop))

pub returns-in_err-sign-clause-stop : goal.returns-in_err-sign-clause-stop
returns-in_err-sign-clause-stop c =
    exit_stop _ c.from_residual-in_err-sign.ensures.1 (overloaded_operator_stops (sym c.sees_identifier.ensures ∙ c.if-sees_identifier.false)
    (stops_next c.in_ok-after_word.ensures.read c.in_err-sign.ensures.stop))

pub returns-in_ok-sign-clause-read : goal.returns-in_ok-sign-clause-read
returns-in_ok-sign-clause-read c =
    overloaded_operator (sym c.sees_identifier.ensures ∙ c.if-sees_identifier.false) c.in_ok-after_word.ensures.read c.in_ok-sign.ensures.read
    c.operator.ensures
