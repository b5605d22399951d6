use Rattle.shape_joins.proofs.Order.{fills_itself, fills_twice}
use Rattle.shape_joins.proofs.laws.shapes_are_ordered.Goals as goal

pub returns-clause-reflexive : goal.returns-clause-reflexive
returns-clause-reflexive c = fills_itself

pub returns-clause-transitive : goal.returns-clause-transitive
returns-clause-transitive c = fills_twice
