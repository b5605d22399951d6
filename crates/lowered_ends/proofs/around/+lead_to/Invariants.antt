use Rattle.std.proofs.Common.{length}
use Rattle.lowered_ends.proofs.around.+lead_to.Given as goal

abbrev pub decreases-lead_to : goal.decreases-lead_to
decreases-lead_to l = length l.leads.now
