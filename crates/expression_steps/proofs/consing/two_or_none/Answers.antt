use Rattle.expression_steps.proofs.ConsLaws.{not_two}
use Rattle.expression_steps.proofs.consing.two_or_none.Goals as goal

pub returns-else-count-eq2 : goal.returns-else-count-eq2
returns-else-count-eq2 c = not_two c.args.count c.if-count-eq2.false
