use Rattle.std.proofs.Common.{length}
use Rattle.lowered_steps.proofs.hands.+copy_held.Given as goal

abbrev pub decreases-copy_held : goal.decreases-copy_held
decreases-copy_held l = length l.values.now
