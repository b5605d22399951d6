use Rattle.shape_joins.proofs.JoinsLeast.{joins_are_above, joins_are_least}
use Rattle.shape_joins.proofs.laws.joins_are_least.Goals as goal

pub returns-clause-above : goal.returns-clause-above
returns-clause-above c = joins_are_above

pub returns-clause-least : goal.returns-clause-least
returns-clause-least c = joins_are_least
