use Rattle.std.proofs.Common.{sym, refl, ◌∙◌}
use Rattle.sail_grammar.proofs.Steps.{exit_stop, pass_ok, pass_stop}
use Rattle.sail_parse_expr.proofs.AssignmentRows as S
use Rattle.sail_parse_expr.proofs.expressions.Rows.assignment_form.Goals as goal

pub returns-in_err-operand-clause-stop : goal.returns-in_err-operand-clause-stop
returns-in_err-operand-clause-stop g c = exit_stop _ c.from_residual.ensures.1 (S.operand_stops c.in_err-operand.ensures.stop)

pub returns-in-None-clause-read : goal.returns-in-None-clause-read
returns-in-None-clause-read g c =
    pass_ok _ c.annotated.ensures.read (λ x r. S.operand_alone c.place-begin.ensures c.in_ok-operand.ensures.read c.in_ok-operand.ensures.shorter
    c.in-None.ensures.read r)

pub returns-in-None-clause-stop : goal.returns-in-None-clause-stop
returns-in-None-clause-stop g c = pass_stop _ c.annotated.ensures.stop (λ e s. S.operand_alone_stops c.in_ok-operand.ensures.read c.in-None.ensures.read s)

pub returns-in-None-2-clause-stop : goal.returns-in-None-2-clause-stop
returns-in-None-2-clause-stop g c =
    S.assign_unfit c.in_ok-operand.ensures.read (sym c.in_ok-target_of-in-Some.ensures ∙ c.in-None-2.is) c.in-Some.ensures.read refl

pub returns-in-Some-2-clause-read : goal.returns-in-Some-2-clause-read
returns-in-Some-2-clause-read g c =
    pass_ok _ c.assigned.ensures.read (λ x r. S.assign_some c.place-begin.ensures c.in_ok-operand.ensures.read c.in_ok-operand.ensures.shorter
    (sym c.in_ok-target_of-in-Some.ensures ∙ c.in-Some-2.is) c.in-Some.ensures.read r)

pub returns-in-Some-2-clause-stop : goal.returns-in-Some-2-clause-stop
returns-in-Some-2-clause-stop g c =
    pass_stop _ c.assigned.ensures.stop (λ e s. S.assign_stops c.in_ok-operand.ensures.read (sym c.in_ok-target_of-in-Some.ensures ∙ c.in-Some-2.is)
    c.in-Some.ensures.read s)
