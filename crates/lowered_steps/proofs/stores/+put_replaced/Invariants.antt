use Rattle.std.proofs.Common.{length}
use Rattle.lowered_steps.proofs.stores.+put_replaced.Given as goal

abbrev pub decreases-put_replaced : goal.decreases-put_replaced
decreases-put_replaced l = length l.suffixes.now
