use Rattle.body_meanings.proofs.Clauses.{functions_right, measures_right}
use Rattle.body_meanings.proofs.laws.bodies_are_right.Goals as goal

pub returns-clause-functions : goal.returns-clause-functions
returns-clause-functions c = functions_right

pub returns-clause-measures : goal.returns-clause-measures
returns-clause-measures c = measures_right
