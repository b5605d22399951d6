use Rattle.std.proofs.Common.{◌≡◌, true}
use Rattle.std.specs.Prelude.{slice_index_or}
use Rattle.std.proofs.lemmas.Result.{on_ok_weaker}
use Rattle.lowered_steps.proofs.Lists.{first_of, none_of, others}
use Rattle.jib_lower.specs.Cycles.{Joined, leads_fall}
use Rattle.jib_lower.proofs.Falling.{leads_more, no_leads}
use Rattle.jib_lower.proofs.cycles.+join_leads.Goals as goal

pub returns-in-empty : goal.returns-in-empty
returns-in-empty t c = no_leads c.args.instances.now c.args.caller c.args.graph.now c.args.leads.now (none_of c.args.leads.now c.in-empty.len_below)

pub returns-in_ok-join_lead-in-len1-up : goal.returns-in_ok-join_lead-in-len1-up
returns-in_ok-join_lead-in-len1-up t c =
    on_ok_weaker c.join_leads.result
    (λ (more : Joined (λ ns. leads_fall ns c.args.instances.now (slice_index_or ns c.args.caller 0) (others c.args.leads.now) ≡ true) c.join_lead.new.graph
    c.join_leads.new.graph).
    leads_more c.args.instances.now c.args.caller c.first-item.result (others c.args.leads.now) c.args.leads.now c.args.graph.now c.join_lead.new.graph
    c.join_leads.new.graph (first_of c.args.leads.now c.first-item.result c.in-len1-up.len_at_least c.first-item.is) c.in_ok-join_lead-in-len1-up.ensures more)
    c.join_leads.ensures
