use Rattle.std.proofs.Common.{length}
use Rattle.lowered_steps.proofs.cells.+put_cell_rest.Given as goal

abbrev pub decreases-put_cell_rest : goal.decreases-put_cell_rest
decreases-put_cell_rest l = length l.cases.now
