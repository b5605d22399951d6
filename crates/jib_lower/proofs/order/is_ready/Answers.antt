use Rattle.std.proofs.Common.{◌∙◌, ap, sym}
use Rattle.lowered_steps.proofs.Lists.{got_item, got_none}
use Rattle.jib_lower.specs.Crossings.{list_at}
use Rattle.jib_lower.specs.Order.{all_among}
use Rattle.jib_lower.proofs.order.is_ready.Goals as goal

pub returns-in-Some : goal.returns-in-Some
returns-in-Some c =
    c.are_among.ensures ∙ ap (λ ds. all_among ds c.args.placed.now) c.as_slice.ensures
    ∙ sym (ap (λ o. all_among (list_at o) c.args.placed.now)
    (got_item c.args.calls.now c.args.direction c.in-Some.asked.now c.in-Some.ensures.lookup.0 c.in-Some.ensures.lookup.1))

pub returns-in-None : goal.returns-in-None
returns-in-None c =
    sym (ap (λ o. all_among (list_at o) c.args.placed.now) (got_none c.args.calls.now c.args.direction c.in-None.ensures.lookup.0))
