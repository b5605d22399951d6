use Rattle.std.proofs.Common.{length}
use Rattle.lowered_steps.proofs.cells.+put_several.Given as goal

abbrev pub decreases-put_several : goal.decreases-put_several
decreases-put_several l = length l.targets.now
