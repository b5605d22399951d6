use Rattle.std.proofs.Common.{length}
use Rattle.lowered_ends.proofs.keeping.+all_give.Given as goal

abbrev pub decreases-all_give : goal.decreases-all_give
decreases-all_give l = length l.cases.now
