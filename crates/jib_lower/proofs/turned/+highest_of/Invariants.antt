use Rattle.std.proofs.Common.{length}
use Rattle.jib_lower.proofs.turned.+highest_of.Given as goal

abbrev pub decreases-highest_of : goal.decreases-highest_of
decreases-highest_of l = length l.directions.now
