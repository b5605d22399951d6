use Rattle.sail_core.proofs.SteadyKinds.{core_steady}
use Rattle.sail_core.proofs.laws.nodes_are_steady.Goals as goal

pub returns : goal.returns
returns c = core_steady
