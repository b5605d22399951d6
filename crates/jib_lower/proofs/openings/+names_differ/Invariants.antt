use Rattle.std.proofs.Common.{length}
use Rattle.jib_lower.proofs.openings.+names_differ.Given as goal

abbrev pub decreases-names_differ : goal.decreases-names_differ
decreases-names_differ l = length l.steps.now
