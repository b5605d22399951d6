use Rattle.std.proofs.Common.{length}
use Rattle.lowered_typed.proofs.cases.+are_leads.Given as goal

abbrev pub decreases-are_leads : goal.decreases-are_leads
decreases-are_leads l = length l.leads.now
