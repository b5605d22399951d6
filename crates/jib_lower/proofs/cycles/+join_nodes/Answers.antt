use Rattle.std.proofs.Common.{◌≡◌, ◌∙◌, ◌∷◌, ap, true}
use Rattle.std.specs.Prelude.{slice_index_or}
use Rattle.std.proofs.lemmas.Result.{on_ok_weaker}
use Rattle.lowered_steps.proofs.Lists.{first_of, none_of, others}
use Rattle.jib_lower.specs.Cycles.{Joined, nodes_fall}
use Rattle.jib_lower.proofs.Falling.{no_nodes, nodes_as, nodes_more}
use Rattle.jib_lower.proofs.cycles.+join_nodes.Goals as goal

pub returns-in-empty : goal.returns-in-empty
returns-in-empty t c = no_nodes c.args.instances.now c.args.caller c.args.graph.now c.args.nodes.now (none_of c.args.nodes.now c.in-empty.len_below)

pub returns-in_ok-join_leads-in-Calls : goal.returns-in_ok-join_leads-in-Calls
returns-in_ok-join_leads-in-Calls t c =
    on_ok_weaker c.join_nodes.result
    (λ (more : Joined (λ ns. nodes_fall ns c.args.instances.now (slice_index_or ns c.args.caller 0) (others c.args.nodes.now) ≡ true) c.join_leads.new.graph
    c.join_nodes.new.graph).
    nodes_more c.args.instances.now c.args.caller _ c.in-Calls.leads c.as_slice.result.now (others c.args.nodes.now) c.args.nodes.now c.args.graph.now
    c.join_leads.new.graph c.join_nodes.new.graph
    (first_of c.args.nodes.now c.first-item.result c.in-len1-up.len_at_least c.first-item.is ∙ ap (λ x. x ∷ others c.args.nodes.now) c.in-Calls.is)
    c.as_slice.ensures c.in_ok-join_leads-in-Calls.ensures more)
    c.join_nodes.ensures

pub returns-in-Makes : goal.returns-in-Makes
returns-in-Makes t c =
    on_ok_weaker c.join_nodes-in-Makes.result
    (λ (more : Joined (λ ns. nodes_fall ns c.args.instances.now (slice_index_or ns c.args.caller 0) (others c.args.nodes.now) ≡ true) c.args.graph.now
    c.join_nodes-in-Makes.new.graph).
    nodes_as c.args.instances.now c.args.caller (c.first-item.result ∷ others c.args.nodes.now) c.args.nodes.now c.args.graph.now
    c.join_nodes-in-Makes.new.graph (first_of c.args.nodes.now c.first-item.result c.in-len1-up.len_at_least c.first-item.is)
    (nodes_as c.args.instances.now c.args.caller _ (c.first-item.result ∷ others c.args.nodes.now) c.args.graph.now c.join_nodes-in-Makes.new.graph
    (ap (λ x. x ∷ others c.args.nodes.now) c.in-Makes.is) more))
    c.join_nodes-in-Makes.ensures

pub returns-in-Gives : goal.returns-in-Gives
returns-in-Gives t c =
    on_ok_weaker c.join_nodes-in-Gives.result
    (λ (more : Joined (λ ns. nodes_fall ns c.args.instances.now (slice_index_or ns c.args.caller 0) (others c.args.nodes.now) ≡ true) c.args.graph.now
    c.join_nodes-in-Gives.new.graph).
    nodes_as c.args.instances.now c.args.caller (c.first-item.result ∷ others c.args.nodes.now) c.args.nodes.now c.args.graph.now
    c.join_nodes-in-Gives.new.graph (first_of c.args.nodes.now c.first-item.result c.in-len1-up.len_at_least c.first-item.is)
    (nodes_as c.args.instances.now c.args.caller _ (c.first-item.result ∷ others c.args.nodes.now) c.args.graph.now c.join_nodes-in-Gives.new.graph
    (ap (λ x. x ∷ others c.args.nodes.now) c.in-Gives.is) more))
    c.join_nodes-in-Gives.ensures
