use Rattle.std.proofs.Common.{length}
use Rattle.lowered_steps.proofs.making.+put_made_rest.Given as goal

abbrev pub decreases-put_made_rest : goal.decreases-put_made_rest
decreases-put_made_rest l = length l.cases.now
