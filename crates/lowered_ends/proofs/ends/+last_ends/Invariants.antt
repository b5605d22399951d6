use Rattle.std.proofs.Common.{length}
use Rattle.lowered_ends.proofs.ends.+last_ends.Given as goal

abbrev pub decreases-last_ends : goal.decreases-last_ends
decreases-last_ends l = length l.others.now
