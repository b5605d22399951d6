use Rattle.std.proofs.Common.{length}
use Rattle.lowered_typed.proofs.replaced.+are_replaced.Given as goal

abbrev pub decreases-are_replaced : goal.decreases-are_replaced
decreases-are_replaced l = length l.cases.now
