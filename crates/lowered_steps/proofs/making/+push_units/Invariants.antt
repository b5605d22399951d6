use Rattle.std.proofs.Common.{length}
use Rattle.lowered_steps.proofs.making.+push_units.Given as goal

abbrev pub decreases-push_units : goal.decreases-push_units
decreases-push_units l = length l.fields.now
