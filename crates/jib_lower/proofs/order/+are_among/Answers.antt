use Rattle.std.proofs.Common.{ap, sym}
use Rattle.lowered_steps.proofs.Lists.{none_of}
use Rattle.jib_lower.specs.Order.{all_among}
use Rattle.jib_lower.proofs.order.+are_among.Goals as goal

pub returns-in-empty : goal.returns-in-empty
returns-in-empty t c = ap (λ ds. all_among ds c.args.others.now) (sym (none_of c.args.directions.now c.in-empty.len_below))
