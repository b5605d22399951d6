use Rattle.std.proofs.Common.{length}
use Rattle.jib_lower.proofs.cycles.+join_bodies.Given as goal

abbrev pub decreases-join_bodies : goal.decreases-join_bodies
decreases-join_bodies l = length l.bodies.now
