use Rattle.std.proofs.Common.{length}
use Rattle.lowered_typed.proofs.cases.+put_gives.Given as goal

abbrev pub decreases-put_gives : goal.decreases-put_gives
decreases-put_gives l = length l.cases.now
