use Rattle.std.proofs.Common.{length}
use Rattle.lowered_typed.proofs.arms.+at_hand.Given as goal

abbrev pub decreases-at_hand : goal.decreases-at_hand
decreases-at_hand l = length l.types.now
