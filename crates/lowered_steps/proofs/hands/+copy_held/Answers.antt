use Rattle.std.proofs.Common.{map, ap}
use Rattle.lowered_steps.proofs.Lists.{first_of, none_of, others}
use Rattle.lowered_steps.proofs.Taking.{held_done, ok_held}
use Rattle.lowered_steps.specs.Hands.{held_of}
use Rattle.lowered_steps.proofs.hands.+copy_held.Goals as goal

pub returns-in-empty : goal.returns-in-empty
returns-in-empty t c =
    held_done c.args.copies.now (map held_of c.args.values.now) (ap (λ us. map held_of us) (none_of c.args.values.now c.in-empty.len_below))

pub returns-in_ok-push-in-len1-up : goal.returns-in_ok-push-in-len1-up
returns-in_ok-push-in-len1-up t c =
    ok_held c.copy_held.result c.args.copies.now c.push.new.self c.copy_held.new.copies c.in_ok-copy-in-len1-up.field-0 (held_of c.first-item.result)
    (map held_of (others c.args.values.now))
    (map held_of c.args.values.now) c.in_ok-push-in-len1-up.ensures.pushed (ap held_of c.in_ok-copy-in-len1-up.ensures)
    (ap (λ us. map held_of us) (first_of c.args.values.now c.first-item.result c.in-len1-up.len_at_least c.first-item.is)) c.copy_held.ensures
