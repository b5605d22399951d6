use Rattle.std.proofs.Common.{length}
use Rattle.jib_lower.proofs.turns.+turns_fall.Given as goal

abbrev pub decreases-turns_fall : goal.decreases-turns_fall
decreases-turns_fall l = length l.callers.now
