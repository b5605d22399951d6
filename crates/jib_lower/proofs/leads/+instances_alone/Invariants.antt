use Rattle.std.proofs.Common.{length}
use Rattle.jib_lower.proofs.leads.+instances_alone.Given as goal

abbrev pub decreases-instances_alone : goal.decreases-instances_alone
decreases-instances_alone l = length l.instances.now
