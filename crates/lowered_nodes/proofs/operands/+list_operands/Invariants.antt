use Rattle.std.proofs.Common.{length}
use Rattle.lowered_nodes.proofs.operands.+list_operands.Given as goal

abbrev pub decreases-list_operands : goal.decreases-list_operands
decreases-list_operands l = length l.nodes.now
