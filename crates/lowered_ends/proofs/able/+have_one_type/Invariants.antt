use Rattle.std.proofs.Common.{length}
use Rattle.lowered_ends.proofs.able.+have_one_type.Given as goal

abbrev pub decreases-have_one_type : goal.decreases-have_one_type
decreases-have_one_type l = length l.nodes.now
