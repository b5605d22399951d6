use Rattle.sail_meaning.proofs.Sentences.{assignments_read, guards_come_later, left_decides, no_turn_no_tick, ticks_first}
use Rattle.sail_meaning.proofs.laws.orders_of_evaluation.Goals as goal

pub returns-clause-assignments : goal.returns-clause-assignments
returns-clause-assignments c = assignments_read

pub returns-clause-guards : goal.returns-clause-guards
returns-clause-guards c = guards_come_later

pub returns-clause-operands : goal.returns-clause-operands
returns-clause-operands c = left_decides

pub returns-clause-turns : goal.returns-clause-turns
returns-clause-turns c = no_turn_no_tick

pub returns-clause-ticks : goal.returns-clause-ticks
returns-clause-ticks c = ticks_first
