use Rattle.lowered_steps.proofs.heads.+hold_fields.Given as goal

abbrev pub decreases-hold_fields : goal.decreases-hold_fields
decreases-hold_fields l = l.count
