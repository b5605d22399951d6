use Rattle.std.proofs.Common.{length}
use Rattle.jib_lower.proofs.cycles.+join_leads.Given as goal

abbrev pub decreases-join_leads : goal.decreases-join_leads
decreases-join_leads l = length l.leads.now
