use Rattle.std.proofs.Common.{length}
use Rattle.lowered_ends.proofs.cells.+is_path.Given as goal

abbrev pub decreases-is_path : goal.decreases-is_path
decreases-is_path l = length l.suffixes.now
