use Rattle.std.proofs.Common.{length}
use Rattle.jib_lower.proofs.turns.+directions_fall.Given as goal

abbrev pub decreases-directions_fall : goal.decreases-directions_fall
decreases-directions_fall l = length l.directions.now
