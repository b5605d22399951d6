use Rattle.std.proofs.Common.{length}
use Rattle.jib_lower.proofs.turned.+directions_stay.Given as goal

abbrev pub decreases-directions_stay : goal.decreases-directions_stay
decreases-directions_stay l = length l.directions.now
