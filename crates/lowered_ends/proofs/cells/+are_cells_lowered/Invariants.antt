use Rattle.std.proofs.Common.{length}
use Rattle.lowered_ends.proofs.cells.+are_cells_lowered.Given as goal

abbrev pub decreases-are_cells_lowered : goal.decreases-are_cells_lowered
decreases-are_cells_lowered l = length l.targets.now
