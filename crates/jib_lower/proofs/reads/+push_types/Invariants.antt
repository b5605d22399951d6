use Rattle.std.proofs.Common.{length}
use Rattle.jib_lower.proofs.reads.+push_types.Given as goal

abbrev pub decreases-push_types : goal.decreases-push_types
decreases-push_types l = length l.cases.now
