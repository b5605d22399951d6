use Rattle.std.proofs.Common.{length}
use Rattle.lowered_ends.proofs.told.+are_among.Given as goal

abbrev pub decreases-are_among : goal.decreases-are_among
decreases-are_among l = length l.cases.now
