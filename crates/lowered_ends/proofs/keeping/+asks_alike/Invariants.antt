use Rattle.std.proofs.Common.{length}
use Rattle.lowered_ends.proofs.keeping.+asks_alike.Given as goal

abbrev pub decreases-asks_alike : goal.decreases-asks_alike
decreases-asks_alike l = length l.picked.now
