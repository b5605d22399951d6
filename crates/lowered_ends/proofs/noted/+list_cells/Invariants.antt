use Rattle.std.proofs.Common.{length}
use Rattle.lowered_ends.proofs.noted.+list_cells.Given as goal

abbrev pub decreases-list_cells : goal.decreases-list_cells
decreases-list_cells l = length l.targets.now
