use Rattle.std.proofs.Common.{◌≡◌, ◌∙◌, ◌+◌, ◌-◌, List, length, ap, subst}
use Rattle.lowered_nodes.specs.Walk.{lead_for, lead_labels}
use Rattle.lowered_pieces.proofs.Framing.{ok_cases}
use Rattle.lowered_pieces.specs.Forms.{kit_at, picked_by}
use Rattle.lowered_pieces.specs.Frames.{ArmsPut}
use Rattle.lowered_pieces.specs.Nodes.{leads_at}
use Rattle.lowered_steps.specs.Setting.{kit_for, nodes_in}
use Rattle.lowered_steps.specs.Stands.{depths_of}
use Rattle.sized_nodes.specs.declared.trees.Lead.{Lead}
use Rattle.lowered_nodes.proofs.calls.put_calling.Goals as goal

pub returns : goal.returns
returns c =
    let walk = c.args.walk.now in let setting = walk.setting.now in let on : c.in_ok-free.free ≡ c.args.stand.now.temp + c.args.calling.count =
    c.in_ok-free.ensures ∙ ap (λ k. c.args.stand.now.temp + k) c.in_ok-as_number.ensures in ok_cases picked_by (λ name. kit_at (kit_for setting name)
    (depths_of c.args.stand.now.levels.now)) (c.args.stand.now.temp + c.args.calling.count) (λ name. lead_labels walk name c.args.tail.now c.args.calling)
    (λ name. lead_for walk name c.args.stand.now c.args.tail.now c.args.calling) c.end_arms.result (leads_at c.args.calling.node (nodes_in setting))
    c.args.coding.now c.begin_arms.new.coding c.put_leads.new.coding c.end_arms.new.coding c.in_ok-end.end (length c.leads-leads.result.now)
    c.in_ok-end.ensures.end (ap (λ (us : List Lead). length us) c.leads-leads.ensures) c.in_ok-end.ensures.code (subst (λ (us : List Lead). ArmsPut
    picked_by (λ name. kit_at (kit_for setting name) (depths_of c.args.stand.now.levels.now)) (c.args.stand.now.temp + c.args.calling.count) (λ name.
    lead_labels walk name c.args.tail.now c.args.calling) (λ name. lead_for walk name c.args.stand.now c.args.tail.now c.args.calling) c.in_ok-end.end us
    c.begin_arms.new.coding c.put_leads.new.coding) c.leads-leads.ensures (subst (λ k. ArmsPut picked_by (λ name. kit_at (kit_for setting name) (depths_of
    c.args.stand.now.levels.now)) k (λ name. lead_labels walk name c.args.tail.now c.args.calling) (λ name. lead_for walk name c.args.stand.now
    c.args.tail.now c.args.calling) c.in_ok-end.end c.leads-leads.result.now c.begin_arms.new.coding c.put_leads.new.coding) on c.in_ok-put_leads.ensures))
    c.end_arms.ensures
