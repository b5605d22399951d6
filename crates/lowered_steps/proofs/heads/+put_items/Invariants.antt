use Rattle.lowered_steps.proofs.heads.+put_items.Given as goal

abbrev pub decreases-put_items : goal.decreases-put_items
decreases-put_items l = l.count
