use Rattle.covering_laws.proofs.Bodies.{bodies_are_met}
use Rattle.covering_laws.proofs.bodies_are_met.Goals as goal

pub returns : goal.returns
returns c = bodies_are_met
