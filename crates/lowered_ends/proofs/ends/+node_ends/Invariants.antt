use Rattle.std.proofs.Common.{◌+◌}
use Rattle.lowered_ends.proofs.Masses.{mass, masses}
use Rattle.lowered_ends.proofs.ends.+node_ends.Given as goal

abbrev pub decreases-node_ends : goal.decreases-node_ends
decreases-node_ends l = mass l.node.now

abbrev pub decreases-all_end : goal.decreases-all_end
decreases-all_end l = masses l.nodes.now + 1

abbrev pub decreases-common_ends : goal.decreases-common_ends
decreases-common_ends l = masses l.nodes.now + 2

abbrev pub decreases-taken_ends : goal.decreases-taken_ends
decreases-taken_ends l = mass l.whole.now + 1

abbrev pub decreases-part_ends : goal.decreases-part_ends
decreases-part_ends l = masses l.parts.now + 2

abbrev pub decreases-second_ends : goal.decreases-second_ends
decreases-second_ends l = masses l.parts.now + 1

abbrev pub decreases-final_ends : goal.decreases-final_ends
decreases-final_ends l = masses l.parts.now + 1

abbrev pub decreases-block_ends : goal.decreases-block_ends
decreases-block_ends l = masses l.parts.now + 2
