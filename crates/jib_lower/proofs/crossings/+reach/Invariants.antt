use Rattle.jib_lower.proofs.crossings.+reach.Given as goal

abbrev pub decreases-reach : goal.decreases-reach
decreases-reach l = l.steps
