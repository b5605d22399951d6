use Rattle.std.proofs.Common.{length}
use Rattle.lowered_typed.proofs.replaced.+all_replaced.Given as goal

abbrev pub decreases-all_replaced : goal.decreases-all_replaced
decreases-all_replaced l = length l.new.now
