use Rattle.std.proofs.Common.{length}
use Rattle.lowered_steps.proofs.tails.+put_met_rest.Given as goal

abbrev pub decreases-put_met_rest : goal.decreases-put_met_rest
decreases-put_met_rest l = length l.cases.now
