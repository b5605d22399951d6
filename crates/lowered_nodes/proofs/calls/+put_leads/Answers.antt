use Rattle.std.proofs.Common.{◌-◌, List, subst, arith}
use Rattle.lowered_ends.proofs.Lists.{first_of, none_of, one_of, others, others_many}
use Rattle.lowered_nodes.specs.Walk.{lead_for, lead_labels}
use Rattle.lowered_pieces.proofs.Framing.{arms_none, ok_more as framed_more, ok_one}
use Rattle.lowered_pieces.specs.Chains.{tests}
use Rattle.lowered_pieces.specs.Emitted.{Emits}
use Rattle.lowered_pieces.specs.Forms.{kit_at, picked_by}
use Rattle.lowered_steps.specs.Setting.{kit_for}
use Rattle.lowered_steps.specs.Stands.{depths_of}
use Rattle.size_values.specs.declared.constants.Picked.{Picked}
use Rattle.lowered_nodes.proofs.calls.+put_leads.Goals as goal

pub returns-in-empty : goal.returns-in-empty
returns-in-empty t c =
    let walk = c.args.walk.now in let setting = walk.setting.now in arms_none picked_by (λ name. kit_at (kit_for setting name) (depths_of
    c.args.stand.now.levels.now)) c.args.free (λ name. lead_labels walk name c.args.tail.now c.args.calling) (λ name. lead_for walk name c.args.stand.now
    c.args.tail.now c.args.calling) c.args.end c.args.leads.now c.args.coding.now (none_of c.args.leads.now c.in-empty.len_below)

pub returns-in-len1 : goal.returns-in-len1
returns-in-len1 t c =
    let walk = c.args.walk.now in let setting = walk.setting.now in ok_one picked_by (λ name. kit_at (kit_for setting name) (depths_of
    c.args.stand.now.levels.now)) c.args.free (λ name. lead_labels walk name c.args.tail.now c.args.calling) (λ name. lead_for walk name c.args.stand.now
    c.args.tail.now c.args.calling) c.put_lead.result c.args.end c.only-item.result c.args.leads.now c.args.coding.now c.put_lead.new.coding (one_of
    c.args.leads.now c.only-item.result c.in-len1.len_at_least c.in-len1.len_below c.only-item.is) c.put_lead.ensures

pub returns-in_ok-end_arm-in-len1-up : goal.returns-in_ok-end_arm-in-len1-up
returns-in_ok-end_arm-in-len1-up t c =
    let walk = c.args.walk.now in let setting = walk.setting.now in framed_more picked_by (λ name. kit_at (kit_for setting name) (depths_of
    c.args.stand.now.levels.now)) c.args.free (λ name. lead_labels walk name c.args.tail.now c.args.calling) (λ name. lead_for walk name c.args.stand.now
    c.args.tail.now c.args.calling) c.put_leads.result c.args.end c.in_ok-next-in-len1-up.next c.first-item.result (others c.args.leads.now)
    c.args.leads.now c.args.coding.now c.begin_arm.new.coding c.put_lead-in-len1-up.new.coding c.end_arm.new.coding c.put_leads.new.coding (first_of
    c.args.leads.now c.first-item.result (omega (arith, c.in-len1-up.len_at_least)) c.first-item.is) (omega (
      arith,
      others_many c.args.leads.now (omega
          (arith, c.in-len1-up.len_at_least)),
      c.in-len1-up.len_at_least,
    )) c.in_ok-next-in-len1-up.ensures.next (subst (λ (us : List Picked). Emits
    c.args.coding.now c.begin_arm.new.coding (λ name l. tests (kit_at (kit_for setting name) (depths_of c.args.stand.now.levels.now)) c.args.free l us) (λ
    name. 1)) c.as_slice-picked.ensures c.in_ok-next-in-len1-up.ensures.code) c.in_ok-put_lead-in-len1-up.ensures c.in_ok-end_arm-in-len1-up.ensures
    c.put_leads.ensures
