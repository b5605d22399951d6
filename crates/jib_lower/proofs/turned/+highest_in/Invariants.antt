use Rattle.std.proofs.Common.{length}
use Rattle.jib_lower.proofs.turned.+highest_in.Given as goal

abbrev pub decreases-highest_in : goal.decreases-highest_in
decreases-highest_in l = length l.nodes.now
