use Rattle.lowered_steps.proofs.Made.{arm_made}
use Rattle.lowered_steps.proofs.making.put_made_arm.Goals as goal

pub returns : goal.returns
returns c =
    arm_made c.put_tail.result c.args.setting.now c.args.coding.now c.put_tail.new.coding c.args.stand.now c.args.making.now c.args.tail.now c.args.node
    c.args.case.now c.put_making.new.coding c.put_notes.new.coding c.in_ok-put_making.ensures
    c.in_ok-put_notes.ensures c.put_tail.ensures
