use Rattle.std.proofs.Common.{sym, ◌∙◌}
use Rattle.sail_grammar.proofs.Steps.{pass_ok, pass_stop}
use Rattle.sail_parse_expr.proofs.OperatorRows as O
use Rattle.sail_parse_expr.proofs.expressions.Rows.unary.Goals as goal

pub returns-then-sees-clause-read : goal.returns-then-sees-clause-read
returns-then-sees-clause-read g c = pass_ok _ c.negation.ensures.read (λ x r. O.unary_negation (sym c.sees.ensures ∙ c.if-sees.true) r)

pub returns-then-sees-clause-stop : goal.returns-then-sees-clause-stop
returns-then-sees-clause-stop g c = pass_stop _ c.negation.ensures.stop (λ e s. O.unary_negation_stops (sym c.sees.ensures ∙ c.if-sees.true) s)

pub returns-then-sees_two-clause-read : goal.returns-then-sees_two-clause-read
returns-then-sees_two-clause-read g c = pass_ok _ c.power.ensures.read (λ x r. O.unary_power (sym c.sees_two.ensures ∙ c.if-sees_two.true) r)

pub returns-then-sees_two-clause-stop : goal.returns-then-sees_two-clause-stop
returns-then-sees_two-clause-stop g c = pass_stop _ c.power.ensures.stop (λ e s. O.unary_power_stops (sym c.sees_two.ensures ∙ c.if-sees_two.true) s)

pub returns-else-sees_two-clause-read : goal.returns-else-sees_two-clause-read
returns-else-sees_two-clause-read g c =
    pass_ok _ c.postfix.ensures.read (λ x r. O.unary_postfix (sym c.sees.ensures ∙ c.if-sees.false) (sym c.sees_two.ensures ∙ c.if-sees_two.false) r)

pub returns-else-sees_two-clause-stop : goal.returns-else-sees_two-clause-stop
returns-else-sees_two-clause-stop g c =
    pass_stop _ c.postfix.ensures.stop (λ e s. O.unary_postfix_stops (sym c.sees.ensures ∙ c.if-sees.false) (sym c.sees_two.ensures ∙ c.if-sees_two.false) s)
