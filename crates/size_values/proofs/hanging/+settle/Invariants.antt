use Rattle.size_values.proofs.hanging.+settle.Given as goal

abbrev pub decreases-settle : goal.decreases-settle
decreases-settle l = l.steps
