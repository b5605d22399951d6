use Rattle.std.proofs.Common.{◌≤◌, length, arith}
use Rattle.jib_values.proofs.SlotLaws.{past_slots}
use Rattle.jib_values.proofs.changes.taken_slot.Goals as goal

pub returns-else-index-len-clause-slots : goal.returns-else-index-len-clause-slots
returns-else-index-len-clause-slots c =
    let past : length c.args.slots.now.items ≤ c.args.slot = omega arith in
    past_slots c.args.slots.now.items c.args.slot past
