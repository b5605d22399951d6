use Rattle.lowered_steps.proofs.Chained.{arm_begun}
use Rattle.lowered_steps.proofs.chains.begin_arm.Goals as goal

pub returns-clause-code : goal.returns-clause-code
returns-clause-code c =
    arm_begun c.args.setting.now c.args.levels.now c.args.temp c.in_ok-next.next c.args.picked.now c.args.coding.now c.take_labels.new.self
    c.put_tests.new.coding
    c.in_ok-next.ensures.first c.in_ok-next.ensures.taken c.in_ok-put_tests.ensures
