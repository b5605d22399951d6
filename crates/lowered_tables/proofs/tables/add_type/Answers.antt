use Rattle.lowered_tables.specs.Built.{with_number}
use Rattle.lowered_tables.proofs.tables.add_type.Goals as goal

pub returns-clause-listed : goal.returns-clause-listed
unfolding with_number
returns-clause-listed c = c.add_below.ensures.listed

pub returns-clause-left : goal.returns-clause-left
unfolding with_number
returns-clause-left c = c.add_below.ensures.left
