use Rattle.std.proofs.Common.{sym, ◌∙◌}
use Rattle.sail_grammar.proofs.Steps.{pass_ok, pass_stop}
use Rattle.sail_parse_expr.proofs.OperatorRows as O
use Rattle.sail_parse_expr.proofs.expressions.Rows.suffix.Goals as goal

pub returns-then-sees-clause-read : goal.returns-then-sees-clause-read
returns-then-sees-clause-read g c = pass_ok _ c.index.ensures.read (λ x r. O.suffix_index (sym c.sees.ensures ∙ c.if-sees.true) r)

pub returns-then-sees-clause-stop : goal.returns-then-sees-clause-stop
returns-then-sees-clause-stop g c = pass_stop _ c.index.ensures.stop (λ e s. O.suffix_index_stops (sym c.sees.ensures ∙ c.if-sees.true) s)

pub returns-else-sees-clause-read : goal.returns-else-sees-clause-read
returns-else-sees-clause-read g c = pass_ok _ c.field.ensures.read (λ x r. O.suffix_field (sym c.sees.ensures ∙ c.if-sees.false) r)

pub returns-else-sees-clause-stop : goal.returns-else-sees-clause-stop
returns-else-sees-clause-stop g c = pass_stop _ c.field.ensures.stop (λ e s. O.suffix_field_stops (sym c.sees.ensures ∙ c.if-sees.false) s)
