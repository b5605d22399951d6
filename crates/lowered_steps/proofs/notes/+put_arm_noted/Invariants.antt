use Rattle.std.proofs.Common.{length}
use Rattle.lowered_steps.proofs.notes.+put_arm_noted.Given as goal

abbrev pub decreases-put_arm_noted : goal.decreases-put_arm_noted
decreases-put_arm_noted l = length l.found.now
