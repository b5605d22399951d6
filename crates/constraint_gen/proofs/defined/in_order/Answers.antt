use Rattle.constraint_gen.proofs.Placing.{order_made}
use Rattle.constraint_gen.proofs.defined.in_order.Goals as goal

pub returns : goal.returns
returns c = λ around.
    order_made c.args.core.now around c.sorted.result c.in_ok-list.list c.as_slice.result.now c.as_slice.ensures (c.in_ok-list.ensures around)
    c.sorted.ensures
