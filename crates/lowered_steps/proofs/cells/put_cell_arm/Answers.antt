use Rattle.lowered_steps.proofs.Celled.{cell_arm_put}
use Rattle.lowered_steps.proofs.cells.put_cell_arm.Goals as goal

pub returns : goal.returns
returns c =
    cell_arm_put c.put_typed.result c.args.setting.now c.args.coding.now c.put_typed.new.coding c.args.cell.now c.args.indexes c.args.stand.now
    c.args.case.now c.put_cast.new.coding c.put_notes.new.coding c.in_ok-put_cast.ensures c.in_ok-put_notes.ensures c.put_typed.ensures
