use Rattle.std.proofs.Common.{length}
use Rattle.lowered_steps.proofs.setting.+leads_of.Given as goal

abbrev pub decreases-leads_of : goal.decreases-leads_of
decreases-leads_of l = length l.bodies.now
