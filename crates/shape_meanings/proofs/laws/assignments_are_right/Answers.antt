use Rattle.shape_meanings.proofs.Aims.{tuple_aim, variable_aim, variable_base, register_aim, register_base}
use Rattle.shape_meanings.proofs.PartAims.{part_aim}
use Rattle.shape_meanings.proofs.Assigns.{assign_right}
use Rattle.shape_meanings.proofs.CallTargets.{call_target_right}
use Rattle.shape_meanings.proofs.Openness.{settles}
use Rattle.shape_meanings.proofs.laws.assignments_are_right.Goals as goal

pub returns-clause-variables : goal.returns-clause-variables
returns-clause-variables c setting locals name l meant is settled =
    (variable_aim setting locals name l meant is settled, variable_base setting locals name l meant is settled)

pub returns-clause-registers : goal.returns-clause-registers
returns-clause-registers c setting locals name r s absent meant =
    (register_aim setting locals name r s absent meant, register_base setting locals name r s absent meant)

pub returns-clause-tuples : goal.returns-clause-tuples
returns-clause-tuples c = tuple_aim

pub returns-clause-parts : goal.returns-clause-parts
returns-clause-parts c = part_aim

pub returns-clause-assignments : goal.returns-clause-assignments
returns-clause-assignments c = assign_right

pub returns-clause-calls : goal.returns-clause-calls
returns-clause-calls c = call_target_right

pub returns-clause-settled : goal.returns-clause-settled
returns-clause-settled c types = settles types
