use Rattle.lowered_steps.proofs.Storing.{taken_put}
use Rattle.lowered_steps.proofs.stores.put_taken.Goals as goal

pub returns : goal.returns
returns c =
    taken_put c.put_apply.result c.args.setting.now c.args.coding.now c.put_apply.new.self c.list_whole.new.coding c.in_ok-sources.sources c.take_op.result
    c.args.way.now c.args.indexes c.args.temp c.in_ok-next.next c.in_ok-part.part c.in_ok-whole.whole c.args.typ.now c.in_ok-inner.inner
    c.in_ok-whole.ensures c.in_ok-inner.ensures c.in_ok-part.ensures c.in_ok-next.ensures c.take_op.ensures c.in_ok-sources.ensures.grown
    c.in_ok-sources.ensures.read c.put_apply.ensures
