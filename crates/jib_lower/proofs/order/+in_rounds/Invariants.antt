use Rattle.jib_lower.proofs.order.+in_rounds.Given as goal

abbrev pub decreases-in_rounds : goal.decreases-in_rounds
decreases-in_rounds l = l.steps
