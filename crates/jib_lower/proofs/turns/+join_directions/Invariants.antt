use Rattle.std.proofs.Common.{length}
use Rattle.jib_lower.proofs.turns.+join_directions.Given as goal

abbrev pub decreases-join_directions : goal.decreases-join_directions
decreases-join_directions l = length l.directions.now
