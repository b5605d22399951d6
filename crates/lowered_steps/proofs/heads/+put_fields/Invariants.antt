use Rattle.lowered_steps.proofs.heads.+put_fields.Given as goal

abbrev pub decreases-put_fields : goal.decreases-put_fields
decreases-put_fields l = l.count
