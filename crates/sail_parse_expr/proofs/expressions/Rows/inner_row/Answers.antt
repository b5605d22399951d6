use Rattle.std.proofs.Common.{sym, ◌∙◌}
use Rattle.sail_grammar.proofs.Steps.{pass_ok, pass_stop}
use Rattle.sail_parse_expr.proofs.ExpressionRows as E
use Rattle.sail_parse_expr.proofs.expressions.Rows.inner_row.Goals as goal

pub returns-then-sees-clause-read : goal.returns-then-sees-clause-read
returns-then-sees-clause-read g c = pass_ok _ c.if_exp.ensures.read (λ x r. E.inner_if (sym c.sees.ensures ∙ c.if-sees.true) r)

pub returns-then-sees-clause-stop : goal.returns-then-sees-clause-stop
returns-then-sees-clause-stop g c = pass_stop _ c.if_exp.ensures.stop (λ e s. E.inner_if_stops (sym c.sees.ensures ∙ c.if-sees.true) s)

pub returns-then-sees-2-clause-read : goal.returns-then-sees-2-clause-read
returns-then-sees-2-clause-read g c = pass_ok _ c.match_exp.ensures.read (λ x r. E.inner_match (sym c.sees-else-sees.ensures ∙ c.if-sees-2.true) r)

pub returns-then-sees-2-clause-stop : goal.returns-then-sees-2-clause-stop
returns-then-sees-2-clause-stop g c = pass_stop _ c.match_exp.ensures.stop (λ e s. E.inner_match_stops (sym c.sees-else-sees.ensures ∙ c.if-sees-2.true) s)

pub returns-then-sees_any-clause-read : goal.returns-then-sees_any-clause-read
returns-then-sees_any-clause-read g c = pass_ok _ c.control.ensures.read (λ x r. E.inner_control (sym c.sees_any.ensures ∙ c.if-sees_any.true) r)

pub returns-then-sees_any-clause-stop : goal.returns-then-sees_any-clause-stop
returns-then-sees_any-clause-stop g c = pass_stop _ c.control.ensures.stop (λ e s. E.inner_control_stops (sym c.sees_any.ensures ∙ c.if-sees_any.true) s)

pub returns-else-sees_any-clause-read : goal.returns-else-sees_any-clause-read
returns-else-sees_any-clause-read g c =
    pass_ok _ c.assignment.ensures.read (λ x r. E.inner_assignment (sym c.sees.ensures ∙ c.if-sees.false) (sym c.sees-else-sees.ensures ∙ c.if-sees-2.false)
    (sym c.sees_any.ensures ∙ c.if-sees_any.false) r)

pub returns-else-sees_any-clause-stop : goal.returns-else-sees_any-clause-stop
returns-else-sees_any-clause-stop g c =
    pass_stop _ c.assignment.ensures.stop (λ e s. E.inner_assignment_stops (sym c.sees.ensures ∙ c.if-sees.false)
    (sym c.sees-else-sees.ensures ∙ c.if-sees-2.false) (sym c.sees_any.ensures ∙ c.if-sees_any.false) s)
