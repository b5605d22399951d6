use Rattle.std.proofs.Common.{length}
use Rattle.lowered_nodes.proofs.arms.+put_enter.Given as goal

abbrev pub decreases-put_enter : goal.decreases-put_enter
decreases-put_enter l = length l.noted.now
