use Rattle.lowered_steps.specs.Hands.{held_of}
use Rattle.lowered_steps.proofs.Opened.{end_put}
use Rattle.lowered_steps.proofs.heads.put_end_test.Goals as goal

pub returns : goal.returns
returns c =
    end_put c.args.setting.now (held_of c.args.value.now) c.put_jump_if.result c.args.coding.now c.put_apply_one.new.self c.put_apply_one-2.new.self
    c.put_jump_if.new.self
    c.args.free c.args.fail c.in_ok-whole.whole c.in_ok-whole.ensures c.in_ok-put_apply_one.ensures c.in_ok-put_apply_one-2.ensures c.put_jump_if.ensures
