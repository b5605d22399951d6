use Rattle.entail.proofs.Growing.{many_is}
use Rattle.entail.proofs.alternatives.many_with.Goals as goal

pub returns-else-more-eq0 : goal.returns-else-more-eq0
returns-else-more-eq0 c = many_is c.args.total c.args.more _ c.if-more-eq0.false c.saturating_mul.ensures
