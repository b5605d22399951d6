use Rattle.std.proofs.Common.{length}
use Rattle.jib_lower.proofs.openings.+add_openings.Given as goal

abbrev pub decreases-add_openings : goal.decreases-add_openings
decreases-add_openings l = length l.openings.now
