use Rattle.shape_meanings.proofs.Walks.{part_right}
use Rattle.shape_meanings.proofs.Updates.{update_right}
use Rattle.shape_meanings.proofs.Withs.{with_right}
use Rattle.shape_meanings.proofs.StructLiterals.{struct_right}
use Rattle.shape_meanings.proofs.laws.parts_are_right.Goals as goal

pub returns-clause-parts : goal.returns-clause-parts
returns-clause-parts c = part_right

pub returns-clause-updates : goal.returns-clause-updates
returns-clause-updates c = update_right

pub returns-clause-withs : goal.returns-clause-withs
returns-clause-withs c = with_right

pub returns-clause-structs : goal.returns-clause-structs
returns-clause-structs c = struct_right
