use Rattle.std.proofs.Common.{length}
use Rattle.jib_lower.proofs.way_types.+add_ways.Given as goal

abbrev pub decreases-add_ways : goal.decreases-add_ways
decreases-add_ways l = length l.directions.now
