use Rattle.std.proofs.Common.{length}
use Rattle.jib_lower.proofs.leads.+no_other.Given as goal

abbrev pub decreases-no_other : goal.decreases-no_other
decreases-no_other l = length l.nodes.now
