use Rattle.lowered_steps.proofs.Celled.{component_put}
use Rattle.lowered_steps.proofs.cells.put_component.Goals as goal

pub returns : goal.returns
returns c =
    component_put c.put_apply_one.result c.args.setting.now c.args.coding.now c.put_apply_one.new.self c.args.at c.in_ok-next.next c.in_ok-part.part
    c.in_ok-whole.whole c.args.stand.now c.args.typ.now c.in_ok-inner.inner c.in_ok-inner.ensures c.in_ok-next.ensures c.in_ok-part.ensures
    c.in_ok-whole.ensures c.put_apply_one.ensures
