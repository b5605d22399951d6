use Rattle.std.proofs.Common.{length}
use Rattle.jib_lower.proofs.leads.+heads_alone.Given as goal

abbrev pub decreases-heads_alone : goal.decreases-heads_alone
decreases-heads_alone l = length l.nodes.now
