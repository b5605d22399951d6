use Rattle.std.proofs.Common.{length}
use Rattle.jib_lower.proofs.leads.+each_alone.Given as goal

abbrev pub decreases-each_alone : goal.decreases-each_alone
decreases-each_alone l = length l.bodies.now
