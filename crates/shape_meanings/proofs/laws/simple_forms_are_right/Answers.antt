use Rattle.shape_meanings.proofs.Settling.{constant_right}
use Rattle.shape_meanings.proofs.Naming.{name_right}
use Rattle.shape_meanings.proofs.Branches.{if_right}
use Rattle.shape_meanings.proofs.laws.simple_forms_are_right.Goals as goal

pub returns-clause-literals : goal.returns-clause-literals
returns-clause-literals c = constant_right

pub returns-clause-names : goal.returns-clause-names
returns-clause-names c = name_right

pub returns-clause-branches : goal.returns-clause-branches
returns-clause-branches c = if_right
