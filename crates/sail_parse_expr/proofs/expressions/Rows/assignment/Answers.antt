use Rattle.sail_grammar.proofs.Steps.{pass_ok, pass_stop}
use Rattle.sail_parse_expr.proofs.AssignmentRows as S
use Rattle.sail_parse_expr.proofs.expressions.Rows.assignment.Goals as goal

pub returns-in-Full-clause-read : goal.returns-in-Full-clause-read
returns-in-Full-clause-read g c = pass_ok _ c.assignment_form.ensures.read (λ x r. S.assignment_in c.in-Full.is r)

pub returns-in-Full-clause-stop : goal.returns-in-Full-clause-stop
returns-in-Full-clause-stop g c = pass_stop _ c.assignment_form.ensures.stop (λ e s. S.assignment_in_stops c.in-Full.is s)

pub returns-in-Limited-clause-read : goal.returns-in-Limited-clause-read
returns-in-Limited-clause-read g c = pass_ok _ c.plain_operand.ensures.read (λ x r. S.assignment_in c.in-Limited.is r)

pub returns-in-Limited-clause-stop : goal.returns-in-Limited-clause-stop
returns-in-Limited-clause-stop g c = pass_stop _ c.plain_operand.ensures.stop (λ e s. S.assignment_in_stops c.in-Limited.is s)
