use Rattle.std.proofs.Common.{length}
use Rattle.jib_lower.proofs.leads.+are_alone.Given as goal

abbrev pub decreases-are_alone : goal.decreases-are_alone
decreases-are_alone l = length l.bodies.now
