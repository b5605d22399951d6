use Rattle.std.proofs.Common.{length}
use Rattle.lowered_steps.proofs.cells.+put_renewed_rest.Given as goal

abbrev pub decreases-put_renewed_rest : goal.decreases-put_renewed_rest
decreases-put_renewed_rest l = length l.cases.now
