use Rattle.sail_meaning.proofs.Starts.{openings_in_order, initial_values_are_all_harts, lets_stop}
use Rattle.sail_meaning.proofs.laws.starts_in_order.Goals as goal

pub returns-clause-order : goal.returns-clause-order
returns-clause-order c = openings_in_order

pub returns-clause-registers : goal.returns-clause-registers
returns-clause-registers c = initial_values_are_all_harts

pub returns-clause-lets : goal.returns-clause-lets
returns-clause-lets c = lets_stop
