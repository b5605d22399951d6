use Rattle.std.proofs.Common.{length}
use Rattle.lowered_steps.proofs.hands.+put_thrown_rest.Given as goal

abbrev pub decreases-put_thrown_rest : goal.decreases-put_thrown_rest
decreases-put_thrown_rest l = length l.cases.now
