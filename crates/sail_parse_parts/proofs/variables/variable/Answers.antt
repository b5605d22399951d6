use Rattle.std.proofs.Common.{refl, sym, ◌∙◌}
use Rattle.sail_grammar.proofs.Steps.{exit_stop, stops_first, stops_next}
use Rattle.sail_parse_parts.proofs.VariableRows.{variable_bare, variable_with_kind, variable_bare_stops}
use Rattle.sail_parse_parts.proofs.VariableRows.{variable_with_kind_stops}
use Rattle.sail_parse_parts.proofs.variables.variable.Goals as goal

pub returns-in_err-token-clause-stop : goal.returns-in_err-token-clause-stop
returns-in_err-token-clause-stop c =
    exit_stop _ c.from_residual.ensures.1 (variable_bare_stops (sym c.sees.ensures ∙ c.if-sees.true) c.in_err-token.ensures.stop)

pub returns-in_ok-name-clause-read : goal.returns-in_ok-name-clause-read
returns-in_ok-name-clause-read c = variable_bare (sym c.sees.ensures ∙ c.if-sees.true) c.in_ok-token.ensures.read c.in_ok-name.ensures refl

pub returns-in_err-after_bracket-clause-stop : goal.returns-in_err-after_bracket-clause-stop
returns-in_err-after_bracket-clause-stop c =
    exit_stop _ c.from_residual-in_err-after_bracket.ensures.1 (variable_with_kind_stops (sym c.sees.ensures ∙ c.if-sees.false)
    (stops_first c.in_err-after_bracket.ensures.stop))

pub returns-in_err-variable-clause-stop : goal.returns-in_err-variable-clause-stop
returns-in_err-variable-clause-stop c =
    exit_stop _ c.from_residual-in_err-variable.ensures.1 (variable_with_kind_stops (sym c.sees.ensures ∙ c.if-sees.false)
    (stops_next c.in_ok-after_bracket.ensures.read (stops_first c.in_err-variable.ensures.stop)))

pub returns-in_err-after_colon-clause-stop : goal.returns-in_err-after_colon-clause-stop
returns-in_err-after_colon-clause-stop c =
    exit_stop _ c.from_residual-in_err-after_colon.ensures.1 (variable_with_kind_stops (sym c.sees.ensures ∙ c.if-sees.false)
    (stops_next c.in_ok-after_bracket.ensures.read (stops_next c.in_ok-variable.ensures.read (stops_first c.in_err-after_colon.ensures.stop))))

pub returns-in_err-word-clause-stop : goal.returns-in_err-word-clause-stop
returns-in_err-word-clause-stop c =
    exit_stop _ c.from_residual-in_err-word.ensures.1 (variable_with_kind_stops (sym c.sees.ensures ∙ c.if-sees.false)
    (stops_next c.in_ok-after_bracket.ensures.read (stops_next c.in_ok-variable.ensures.read
    (stops_next c.in_ok-after_colon.ensures.read (stops_first c.in_err-word.ensures.stop)))))

pub returns-in_err-rest-clause-stop : goal.returns-in_err-rest-clause-stop
returns-in_err-rest-clause-stop c =
    exit_stop _ c.from_residual-in_err-rest.ensures.1 (variable_with_kind_stops (sym c.sees.ensures ∙ c.if-sees.false)
    (stops_next c.in_ok-after_bracket.ensures.read (stops_next c.in_ok-variable.ensures.read
    (stops_next c.in_ok-after_colon.ensures.read (stops_next c.in_ok-word.ensures.read c.in_err-rest.ensures.stop)))))

pub returns-in_ok-rest-clause-read : goal.returns-in_ok-rest-clause-read
returns-in_ok-rest-clause-read c =
    variable_with_kind (sym c.sees.ensures ∙ c.if-sees.false) c.in_ok-after_bracket.ensures.read c.in_ok-variable.ensures.read
    c.in_ok-after_colon.ensures.read c.in_ok-word.ensures.read c.in_ok-rest.ensures.read c.in_ok-bound.ensures c.kind_spelled-kind.ensures
