use Rattle.std.proofs.Common.{length}
use Rattle.lowered_typed.proofs.replaced.+is_replaced.Given as goal

abbrev pub decreases-is_replaced : goal.decreases-is_replaced
decreases-is_replaced l = length l.suffixes.now
