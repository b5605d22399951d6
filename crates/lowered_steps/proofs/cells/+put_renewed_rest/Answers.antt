use Rattle.std.proofs.Common.{subst, arith}
use Rattle.lowered_pieces.specs.Chains.{tests}
use Rattle.lowered_pieces.specs.Emitted.{Emits, no_labels}
use Rattle.lowered_pieces.specs.Forms.{kit_at, picked_in}
use Rattle.lowered_pieces.proofs.Framing.{arms_none, ok_more, ok_one}
use Rattle.lowered_steps.specs.Cells.{renewed_arm}
use Rattle.lowered_steps.specs.Setting.{kit_for}
use Rattle.lowered_steps.specs.Stands.{depths_of}
use Rattle.lowered_steps.proofs.Lists.{first_of, none_of, one_of, others, others_many}
use Rattle.lowered_steps.proofs.cells.+put_renewed_rest.Goals as goal

pub returns-in-empty : goal.returns-in-empty
returns-in-empty t c =
    arms_none picked_in (λ name. kit_at (kit_for c.args.setting.now name) (depths_of c.args.stand.now.levels.now)) c.args.stand.now.temp
    no_labels
    (λ name. renewed_arm c.args.setting.now name c.args.cell.now c.args.indexes c.args.given c.args.part c.args.stand.now)
    c.args.end c.args.cases.now c.args.coding.now (none_of c.args.cases.now c.in-empty.len_below)

pub returns-in-len1 : goal.returns-in-len1
returns-in-len1 t c =
    ok_one picked_in (λ name. kit_at (kit_for c.args.setting.now name) (depths_of c.args.stand.now.levels.now)) c.args.stand.now.temp
    no_labels
    (λ name. renewed_arm c.args.setting.now name c.args.cell.now c.args.indexes c.args.given c.args.part c.args.stand.now)
    c.put_renewed_arm.result c.args.end c.only-item.result c.args.cases.now c.args.coding.now c.put_renewed_arm.new.coding
    (one_of c.args.cases.now c.only-item.result c.in-len1.len_at_least c.in-len1.len_below c.only-item.is) c.put_renewed_arm.ensures

pub returns-in_ok-end_arm-in-len1-up : goal.returns-in_ok-end_arm-in-len1-up
returns-in_ok-end_arm-in-len1-up t c =
    ok_more picked_in (λ name. kit_at (kit_for c.args.setting.now name) (depths_of c.args.stand.now.levels.now)) c.args.stand.now.temp
    no_labels
    (λ name. renewed_arm c.args.setting.now name c.args.cell.now c.args.indexes c.args.given c.args.part c.args.stand.now)
    c.put_renewed_rest.result c.args.end c.in_ok-next-in-len1-up.next c.first-item.result (others c.args.cases.now) c.args.cases.now c.args.coding.now
    c.begin_arm.new.coding c.put_renewed_arm-in-len1-up.new.coding c.end_arm.new.coding c.put_renewed_rest.new.coding
    (first_of c.args.cases.now c.first-item.result (omega (arith, c.in-len1-up.len_at_least)) c.first-item.is)
    (others_many c.args.cases.now c.in-len1-up.len_at_least) c.in_ok-next-in-len1-up.ensures.next
    (subst (λ us. Emits c.args.coding.now c.begin_arm.new.coding (λ name l. tests (kit_at (kit_for c.args.setting.now name) (depths_of
    c.args.stand.now.levels.now)) c.args.stand.now.temp l us) (λ name. 1)) c.as_slice-picked.ensures c.in_ok-next-in-len1-up.ensures.code)
    c.in_ok-put_renewed_arm-in-len1-up.ensures c.in_ok-end_arm-in-len1-up.ensures c.put_renewed_rest.ensures
