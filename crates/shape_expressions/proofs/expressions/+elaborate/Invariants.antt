use Rattle.sail_syntax.proofs.expressions.Exp.TheLaws.{the_size}
use Rattle.shape_expressions.proofs.expressions.+elaborate.Given as goal

abbrev pub decreases-elaborate : goal.decreases-elaborate
decreases-elaborate l = the_size l.expression.now
