use Rattle.lowered_typed.proofs.heads.+are_items.Given as goal

abbrev pub decreases-are_items : goal.decreases-are_items
decreases-are_items l = l.count
