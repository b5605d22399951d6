use Rattle.std.proofs.Common.{◌+◌}
use Rattle.jib_lower.proofs.Trees.{mass, masses}
use Rattle.jib_lower.proofs.reads.+list_read.Given as goal

abbrev pub decreases-list_read : goal.decreases-list_read
decreases-list_read l = mass l.tree.now

abbrev pub decreases-list_all_read : goal.decreases-list_all_read
decreases-list_all_read l = masses l.trees.now + 1
