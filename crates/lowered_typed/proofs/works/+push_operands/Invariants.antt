use Rattle.std.proofs.Common.{length}
use Rattle.lowered_typed.proofs.works.+push_operands.Given as goal

abbrev pub decreases-push_operands : goal.decreases-push_operands
decreases-push_operands l = length l.numbers.now
