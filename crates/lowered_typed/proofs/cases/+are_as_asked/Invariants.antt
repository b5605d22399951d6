use Rattle.std.proofs.Common.{length}
use Rattle.lowered_typed.proofs.cases.+are_as_asked.Given as goal

abbrev pub decreases-are_as_asked : goal.decreases-are_as_asked
decreases-are_as_asked l = length l.cases.now
