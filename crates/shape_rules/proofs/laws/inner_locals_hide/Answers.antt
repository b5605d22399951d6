use Rattle.shape_rules.proofs.Under.{last_innermost, others_stay}
use Rattle.shape_rules.proofs.laws.inner_locals_hide.Goals as goal

pub returns-clause-last : goal.returns-clause-last
returns-clause-last c = λ name found last locals. last_innermost name found last locals

pub returns-clause-others : goal.returns-clause-others
returns-clause-others c = λ name found locals h. others_stay name found locals h
