use Rattle.lowered_steps.proofs.Storing.{part_put}
use Rattle.lowered_steps.proofs.stores.put_part.Goals as goal

pub returns : goal.returns
returns c =
    part_put c.put_apply.result c.args.setting.now c.args.coding.now c.put_apply.new.self c.list_whole.new.coding c.source.new.self c.in_ok-sources.sources
    c.push.new.self c.in_ok-source.source c.put_op.result c.args.way.now c.args.indexes c.args.temp c.in_ok-whole.whole c.args.given c.args.part
    c.args.typ.now c.in_ok-whole.ensures c.put_op.ensures c.in_ok-sources.ensures.grown c.in_ok-sources.ensures.read c.in_ok-source.ensures.grown
    c.in_ok-source.ensures.read c.in_ok-push.ensures.pushed c.put_apply.ensures
