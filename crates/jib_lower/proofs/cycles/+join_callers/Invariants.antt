use Rattle.std.proofs.Common.{length}
use Rattle.jib_lower.proofs.cycles.+join_callers.Given as goal

abbrev pub decreases-join_callers : goal.decreases-join_callers
decreases-join_callers l = length l.callers.now
