use Rattle.std.proofs.Common.{ap}
use Rattle.lowered_steps.proofs.Lists.{first_of, none_of, others}
use Rattle.lowered_steps.proofs.Taking.{held_done, ok_held, given_step}
use Rattle.lowered_pieces.specs.Arms.{given_held}
use Rattle.lowered_slots.specs.declared.slots.Place.TheVariants as P
use Rattle.lowered_steps.proofs.hands.+hold_given.Goals as goal

pub returns-in-empty : goal.returns-in-empty
returns-in-empty t c =
    held_done c.args.values.now (given_held c.args.from c.args.types.now) (ap (given_held c.args.from) (none_of c.args.types.now c.in-empty.len_below))

pub returns-in_ok-next-in-len1-up : goal.returns-in_ok-next-in-len1-up
returns-in_ok-next-in-len1-up t c =
    ok_held c.hold_given.result c.args.values.now c.push.new.self c.hold_given.new.values _ _ (given_held c.in_ok-next-in-len1-up.next
    (others c.args.types.now))
    (given_held c.args.from c.args.types.now) c.in_ok-push-in-len1-up.ensures.pushed (ap (λ u. record { place = P.Given c.args.from; typ = u })
    c.in_ok-typ-in-len1-up.ensures)
    (given_step c.args.from c.in_ok-next-in-len1-up.next c.first-item.result (others c.args.types.now) c.args.types.now
    (first_of c.args.types.now c.first-item.result c.in-len1-up.len_at_least c.first-item.is) c.in_ok-next-in-len1-up.ensures) c.hold_given.ensures
