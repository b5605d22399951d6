use Rattle.std.proofs.Common.{sym, ap}
use Rattle.std.specs.Prelude.{Option}
use Rattle.lowered_steps.specs.Cells.{cell_in}
use Rattle.lowered_steps.specs.declared.cells.Cell.{Cell}
use Rattle.lowered_ends.specs.Targets.{one_in}
use Rattle.lowered_ends.proofs.targets.one_of.Goals as goal

pub returns-in-Some : goal.returns-in-Some
returns-in-Some c = ap (λ (o : Option Cell). one_in (cell_in o)) (sym c.in-Some.is)

pub returns-in-None : goal.returns-in-None
returns-in-None c = ap (λ (o : Option Cell). one_in (cell_in o)) (sym c.in-None.is)
