use Rattle.shape_models.proofs.Steps.{made_variables}
use Rattle.shape_models.proofs.candidates.variables.Goals as goal

pub loop-position-preserved : goal.loop-position-preserved
loop-position-preserved c =
    made_variables c.loop-position.position c.loop-position.made c.push.new.self c.in_ok-small.field-0 c.loop-position.invariant
    c.in_ok-small.ensures c.in_ok-push.ensures.pushed
