use Rattle.std.proofs.Common.{◌+◌}
use Rattle.jib_lower.proofs.Trees.{mass, masses}
use Rattle.jib_lower.proofs.crossings.+list_asked.Given as goal

abbrev pub decreases-list_asked : goal.decreases-list_asked
decreases-list_asked l = mass l.tree.now

abbrev pub decreases-list_all_asked : goal.decreases-list_all_asked
decreases-list_all_asked l = masses l.trees.now + 1
