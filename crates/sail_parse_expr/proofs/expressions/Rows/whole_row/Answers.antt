use Rattle.std.proofs.Common.{sym, ◌∙◌}
use Rattle.sail_grammar.proofs.Steps.{pass_ok, pass_stop}
use Rattle.sail_parse_expr.proofs.ExpressionRows as E
use Rattle.sail_parse_expr.proofs.expressions.Rows.whole_row.Goals as goal

pub returns-then-sees-clause-read : goal.returns-then-sees-clause-read
returns-then-sees-clause-read g c = pass_ok _ c.let_in.ensures.read (λ x r. E.exp_let (sym c.sees.ensures ∙ c.if-sees.true) r)

pub returns-then-sees-clause-stop : goal.returns-then-sees-clause-stop
returns-then-sees-clause-stop g c = pass_stop _ c.let_in.ensures.stop (λ e s. E.exp_let_stops (sym c.sees.ensures ∙ c.if-sees.true) s)

pub returns-then-sees-2-clause-read : goal.returns-then-sees-2-clause-read
returns-then-sees-2-clause-read g c = pass_ok _ c.var_in.ensures.read (λ x r. E.exp_var (sym c.sees-else-sees.ensures ∙ c.if-sees-2.true) r)

pub returns-then-sees-2-clause-stop : goal.returns-then-sees-2-clause-stop
returns-then-sees-2-clause-stop g c = pass_stop _ c.var_in.ensures.stop (λ e s. E.exp_var_stops (sym c.sees-else-sees.ensures ∙ c.if-sees-2.true) s)

pub returns-else-sees-2-clause-read : goal.returns-else-sees-2-clause-read
returns-else-sees-2-clause-read g c =
    pass_ok _ c.inner_row.ensures.read (λ x r. E.exp_inner (sym c.sees.ensures ∙ c.if-sees.false) (sym c.sees-else-sees.ensures ∙ c.if-sees-2.false) r)

pub returns-else-sees-2-clause-stop : goal.returns-else-sees-2-clause-stop
returns-else-sees-2-clause-stop g c =
    pass_stop _ c.inner_row.ensures.stop (λ e s. E.exp_inner_stops (sym c.sees.ensures ∙ c.if-sees.false) (sym c.sees-else-sees.ensures ∙ c.if-sees-2.false) s)
