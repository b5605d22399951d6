use Rattle.std.proofs.Common.{length}
use Rattle.jib_lower.proofs.turned.+highest_lead.Given as goal

abbrev pub decreases-highest_lead : goal.decreases-highest_lead
decreases-highest_lead l = length l.leads.now
