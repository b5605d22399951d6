use Rattle.std.proofs.Common.{length}
use Rattle.lowered_typed.proofs.cases.+meets.Given as goal

abbrev pub decreases-meets : goal.decreases-meets
decreases-meets l = length l.types.now
