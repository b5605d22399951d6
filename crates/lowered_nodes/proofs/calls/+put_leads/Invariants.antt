use Rattle.std.proofs.Common.{length}
use Rattle.lowered_nodes.proofs.calls.+put_leads.Given as goal

abbrev pub decreases-put_leads : goal.decreases-put_leads
decreases-put_leads l = length l.leads.now
