use Rattle.std.proofs.Common.{length}
use Rattle.lowered_typed.proofs.ends.+push_operand_types.Given as goal

abbrev pub decreases-push_operand_types : goal.decreases-push_operand_types
decreases-push_operand_types l = length l.parts.now
