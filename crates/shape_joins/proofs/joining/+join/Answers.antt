use Rattle.std.proofs.Common.{sym}
use Rattle.shape_joins.proofs.Counts.{none_joined}
use Rattle.shape_joins.proofs.joining.+join.Goals as goal

pub join_parts-returns-then-parts-others : goal.join_parts-returns-then-parts-others
join_parts-returns-then-parts-others t c = sym (none_joined c.args.parts.now c.args.others.now c.if-parts-others.true)
