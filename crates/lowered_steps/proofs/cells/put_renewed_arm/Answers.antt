use Rattle.lowered_steps.proofs.Celled.{renewed_arm_put}
use Rattle.lowered_steps.proofs.cells.put_renewed_arm.Goals as goal

pub returns : goal.returns
returns c =
    renewed_arm_put c.put_renewed.result c.args.setting.now c.args.coding.now c.put_renewed.new.coding c.args.cell.now c.args.indexes c.args.given
    c.args.part c.args.stand.now c.args.case.now c.put_held.new.coding c.put_notes.new.coding c.in_ok-put_held.ensures c.in_ok-put_notes.ensures
    c.put_renewed.ensures
