use Rattle.lowered_steps.proofs.Chained.{tests_put, no_tests}
use Rattle.lowered_steps.proofs.Lists.{none_of, others, head_of}
use Rattle.lowered_steps.proofs.chains.+put_tests.Goals as goal

pub returns-in-empty : goal.returns-in-empty
returns-in-empty t c =
    no_tests c.args.setting.now c.args.levels.now c.args.temp c.args.label c.args.picked.now c.args.coding.now (none_of c.args.picked.now c.in-empty.len_below)

pub returns-in_ok-put_jump_if-in-len1-up : goal.returns-in_ok-put_jump_if-in-len1-up
returns-in_ok-put_jump_if-in-len1-up t c =
    tests_put c.put_tests.result c.args.setting.now c.args.levels.now c.args.temp c.args.label _ (others c.args.picked.now) c.args.picked.now
    c.in_ok-depth-in-len1-up.depth c.tested.result
    c.args.coding.now c.put_apply_at.new.self c.put_jump_if.new.self c.put_tests.new.coding c.in_ok-depth-in-len1-up.ensures c.tested.ensures
    (head_of c.args.picked.now _ c.in-len1-up.len_at_least) c.in_ok-put_apply_at-in-len1-up.ensures c.in_ok-put_jump_if-in-len1-up.ensures c.put_tests.ensures
