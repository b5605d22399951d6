use Rattle.std.proofs.Common.{sym, ◌∙◌}
use Rattle.sail_grammar.proofs.Steps.{exit_stop, pass_ok, pass_stop}
use Rattle.sail_parse_atoms.proofs.BlockRows as B
use Rattle.sail_parse_atoms.proofs.atoms.Atoms.statement.Goals as goal

pub returns-then-sees-clause-read : goal.returns-then-sees-clause-read
returns-then-sees-clause-read g c = pass_ok _ c.let_statement.ensures.read (λ x r. B.statement_let (sym c.sees.ensures ∙ c.if-sees.true) r)

pub returns-then-sees-clause-stop : goal.returns-then-sees-clause-stop
returns-then-sees-clause-stop g c = pass_stop _ c.let_statement.ensures.stop (λ e s. B.statement_let_stops (sym c.sees.ensures ∙ c.if-sees.true) s)

pub returns-then-sees-2-clause-read : goal.returns-then-sees-2-clause-read
returns-then-sees-2-clause-read g c = pass_ok _ c.var_statement.ensures.read (λ x r. B.statement_var (sym c.sees-else-sees.ensures ∙ c.if-sees-2.true) r)

pub returns-then-sees-2-clause-stop : goal.returns-then-sees-2-clause-stop
returns-then-sees-2-clause-stop g c =
    pass_stop _ c.var_statement.ensures.stop (λ e s. B.statement_var_stops (sym c.sees-else-sees.ensures ∙ c.if-sees-2.true) s)

pub returns-in_err-value-clause-stop : goal.returns-in_err-value-clause-stop
returns-in_err-value-clause-stop g c =
    exit_stop _ c.from_residual.ensures.1 (B.statement_inner_stops (sym c.sees.ensures ∙ c.if-sees.false) (sym c.sees-else-sees.ensures ∙ c.if-sees-2.false)
    c.in_err-value.ensures.stop)

pub returns-in_ok-value-clause-read : goal.returns-in_ok-value-clause-read
returns-in_ok-value-clause-read g c =
    B.statement_inner (sym c.sees.ensures ∙ c.if-sees.false) (sym c.sees-else-sees.ensures ∙ c.if-sees-2.false) c.in_ok-value.ensures.read
