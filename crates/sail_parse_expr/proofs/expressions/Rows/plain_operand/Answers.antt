use Rattle.std.proofs.Common.{refl}
use Rattle.sail_grammar.proofs.Steps.{exit_stop, pass_ok, pass_stop}
use Rattle.sail_parse_expr.proofs.AssignmentRows as S
use Rattle.sail_parse_expr.proofs.expressions.Rows.plain_operand.Goals as goal

pub returns-in_err-operand-clause-stop : goal.returns-in_err-operand-clause-stop
returns-in_err-operand-clause-stop g c = exit_stop _ c.from_residual.ensures.1 (S.plain_operand_stops c.in_err-operand.ensures.stop)

pub returns-then-is_assigned-clause-stop : goal.returns-then-is_assigned-clause-stop
returns-then-is_assigned-clause-stop g c =
    S.assign_forbidden c.in_ok-operand.ensures.read (S.of_lent c.in_ok-operand.after_operand.now c.get.ensures c.is_assigned.ensures c.if-is_assigned.true)
    refl refl

pub returns-clause-read : goal.returns-clause-read
returns-clause-read g c =
    pass_ok _ c.annotated.ensures.read (λ x r. S.plain_alone c.place-begin.ensures c.in_ok-operand.ensures.read c.in_ok-operand.ensures.shorter
    (S.of_lent c.in_ok-operand.after_operand.now c.get.ensures c.is_assigned.ensures c.if-is_assigned.false) r)

pub returns-clause-stop : goal.returns-clause-stop
returns-clause-stop g c =
    pass_stop _ c.annotated.ensures.stop (λ e s. S.plain_alone_stops c.in_ok-operand.ensures.read
    (S.of_lent c.in_ok-operand.after_operand.now c.get.ensures c.is_assigned.ensures c.if-is_assigned.false) s)
