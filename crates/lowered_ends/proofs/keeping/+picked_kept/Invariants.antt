use Rattle.std.proofs.Common.{length}
use Rattle.lowered_ends.proofs.keeping.+picked_kept.Given as goal

abbrev pub decreases-picked_kept : goal.decreases-picked_kept
decreases-picked_kept l = length l.picked.now
