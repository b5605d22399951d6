use Rattle.std.proofs.Common.{length}
use Rattle.lowered_functions.proofs.functions.+begin_given.Given as goal

abbrev pub decreases-begin_given : goal.decreases-begin_given
decreases-begin_given l = length l.given.now
