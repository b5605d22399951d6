use Rattle.jib_lower.proofs.directions.make_judged.Goals as goal

pub returns-clause-made : goal.returns-clause-made
returns-clause-made c = c.make_code.ensures.made

pub returns-clause-left : goal.returns-clause-left
returns-clause-left c = c.make_code.ensures.left
