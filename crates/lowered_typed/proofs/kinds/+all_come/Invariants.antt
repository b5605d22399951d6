use Rattle.std.proofs.Common.{length}
use Rattle.lowered_typed.proofs.kinds.+all_come.Given as goal

abbrev pub decreases-all_come : goal.decreases-all_come
decreases-all_come l = length l.types.now
