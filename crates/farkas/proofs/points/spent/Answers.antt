use Rattle.farkas.proofs.Backward.{spent_end}
use Rattle.farkas.proofs.points.spent.Goals as goal

pub returns : goal.returns
returns c = spent_end _ _ _ _ _ _ c.loop-value-test.false c.loop-value.invariant.same
