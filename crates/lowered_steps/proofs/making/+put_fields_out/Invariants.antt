use Rattle.std.proofs.Common.{length}
use Rattle.lowered_steps.proofs.making.+put_fields_out.Given as goal

abbrev pub decreases-put_fields_out : goal.decreases-put_fields_out
decreases-put_fields_out l = length l.types.now
