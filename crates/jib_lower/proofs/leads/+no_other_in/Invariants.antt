use Rattle.std.proofs.Common.{length}
use Rattle.jib_lower.proofs.leads.+no_other_in.Given as goal

abbrev pub decreases-no_other_in : goal.decreases-no_other_in
decreases-no_other_in l = length l.bodies.now
