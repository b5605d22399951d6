use Rattle.std.proofs.Common.{length}
use Rattle.jib_lower.proofs.reads.+push_reads.Given as goal

abbrev pub decreases-push_reads : goal.decreases-push_reads
decreases-push_reads l = length l.reads.now
