use Rattle.std.proofs.Common.{length}
use Rattle.jib_lower.proofs.plain.+are_plain_told.Given as goal

abbrev pub decreases-are_plain_told : goal.decreases-are_plain_told
decreases-are_plain_told l = length l.told.now
