use Rattle.lowered_steps.proofs.Tailed.{nothing}
use Rattle.lowered_steps.proofs.tails.put_nothing.Goals as goal

pub returns : goal.returns
returns c =
    nothing c.put_tail.result c.args.coding.now c.put_tail.new.coding c.args.setting.now c.args.stand.now c.args.tail.now c.put_unit.new.coding
    c.in_ok-put_unit.ensures c.put_tail.ensures
