use Rattle.std.proofs.Common.{◌+◌}
use Rattle.jib_lower.proofs.Trees.{mass, masses}
use Rattle.jib_lower.proofs.turned.+returns_nothing.Given as goal

abbrev pub decreases-returns_nothing : goal.decreases-returns_nothing
decreases-returns_nothing l = mass l.tree.now

abbrev pub decreases-all_return_nothing : goal.decreases-all_return_nothing
decreases-all_return_nothing l = masses l.trees.now + 1
