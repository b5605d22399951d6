use Rattle.shape_joins.proofs.Counts.{none_learnt}
use Rattle.shape_joins.proofs.learning.+learn.Goals as goal

pub learn_shapes-returns-then-params-shapes : goal.learn_shapes-returns-then-params-shapes
learn_shapes-returns-then-params-shapes t c = none_learnt c.args.params.now c.args.shapes.now c.args.known.now c.if-params-shapes.true
