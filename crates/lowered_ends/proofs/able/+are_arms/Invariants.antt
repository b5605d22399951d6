use Rattle.std.proofs.Common.{length}
use Rattle.lowered_ends.proofs.able.+are_arms.Given as goal

abbrev pub decreases-are_arms : goal.decreases-are_arms
decreases-are_arms l = length l.arms.now
