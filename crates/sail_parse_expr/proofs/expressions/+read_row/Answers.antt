use Rattle.sail_grammar.proofs.Steps.{pass_ok, pass_stop}
use Rattle.sail_parse_expr.proofs.ExpressionRows as E
use Rattle.sail_parse_expr.proofs.expressions.+read_row.Goals as goal

pub returns-in-Whole-clause-read : goal.returns-in-Whole-clause-read
returns-in-Whole-clause-read t c = pass_ok _ c.whole_row.ensures.read (λ x r. E.part_in _ c.in-Whole.is r)

pub returns-in-Whole-clause-stop : goal.returns-in-Whole-clause-stop
returns-in-Whole-clause-stop t c = pass_stop _ c.whole_row.ensures.stop (λ e s. E.part_in_stops _ c.in-Whole.is s)

pub returns-in-Inner-clause-read : goal.returns-in-Inner-clause-read
returns-in-Inner-clause-read t c = pass_ok _ c.inner_row.ensures.read (λ x r. E.part_in _ c.in-Inner.is r)

pub returns-in-Inner-clause-stop : goal.returns-in-Inner-clause-stop
returns-in-Inner-clause-stop t c = pass_stop _ c.inner_row.ensures.stop (λ e s. E.part_in_stops _ c.in-Inner.is s)

pub returns-in-Operand-clause-read : goal.returns-in-Operand-clause-read
returns-in-Operand-clause-read t c = pass_ok _ c.operand_row.ensures.read (λ x r. E.part_in _ c.in-Operand.is r)

pub returns-in-Operand-clause-stop : goal.returns-in-Operand-clause-stop
returns-in-Operand-clause-stop t c = pass_stop _ c.operand_row.ensures.stop (λ e s. E.part_in_stops _ c.in-Operand.is s)

pub returns-in-And-clause-read : goal.returns-in-And-clause-read
returns-in-And-clause-read t c = pass_ok _ c.infix_and.ensures.read (λ x r. E.part_in _ c.in-And.is r)

pub returns-in-And-clause-stop : goal.returns-in-And-clause-stop
returns-in-And-clause-stop t c = pass_stop _ c.infix_and.ensures.stop (λ e s. E.part_in_stops _ c.in-And.is s)

pub returns-in-Append-clause-read : goal.returns-in-Append-clause-read
returns-in-Append-clause-read t c = pass_ok _ c.infix_append.ensures.read (λ x r. E.part_in _ c.in-Append.is r)

pub returns-in-Append-clause-stop : goal.returns-in-Append-clause-stop
returns-in-Append-clause-stop t c = pass_stop _ c.infix_append.ensures.stop (λ e s. E.part_in_stops _ c.in-Append.is s)

pub returns-in-Power-clause-read : goal.returns-in-Power-clause-read
returns-in-Power-clause-read t c = pass_ok _ c.infix_power.ensures.read (λ x r. E.part_in _ c.in-Power.is r)

pub returns-in-Power-clause-stop : goal.returns-in-Power-clause-stop
returns-in-Power-clause-stop t c = pass_stop _ c.infix_power.ensures.stop (λ e s. E.part_in_stops _ c.in-Power.is s)

pub returns-in-Unary-clause-read : goal.returns-in-Unary-clause-read
returns-in-Unary-clause-read t c = pass_ok _ c.unary.ensures.read (λ x r. E.part_in _ c.in-Unary.is r)

pub returns-in-Unary-clause-stop : goal.returns-in-Unary-clause-stop
returns-in-Unary-clause-stop t c = pass_stop _ c.unary.ensures.stop (λ e s. E.part_in_stops _ c.in-Unary.is s)
