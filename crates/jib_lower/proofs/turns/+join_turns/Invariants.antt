use Rattle.std.proofs.Common.{length}
use Rattle.jib_lower.proofs.turns.+join_turns.Given as goal

abbrev pub decreases-join_turns : goal.decreases-join_turns
decreases-join_turns l = length l.callers.now
