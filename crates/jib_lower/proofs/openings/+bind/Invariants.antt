use Rattle.std.proofs.Common.{length}
use Rattle.jib_lower.proofs.openings.+bind.Given as goal

abbrev pub decreases-bind : goal.decreases-bind
decreases-bind l = length l.steps.now
