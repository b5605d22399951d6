use Rattle.std.proofs.Common.{length}
use Rattle.lowered_steps.proofs.hands.+hold_given.Given as goal

abbrev pub decreases-hold_given : goal.decreases-hold_given
decreases-hold_given l = length l.types.now
