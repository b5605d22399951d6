use Rattle.std.proofs.Common.{◌≡◌, ◌∙◌, sym}
use Rattle.lowered_slots.proofs.Found.{is_there}
use Rattle.lowered_slots.proofs.slots.put_slot.Goals as goal

pub returns-else-at-len-clause-put : goal.returns-else-at-len-clause-put
returns-else-at-len-clause-put c =
    is_there c.args.slots.now c.args.place c.args.typ c.args.at c.requires.found (λ e. c.if-at-len.false (e ∙ sym c.len.ensures))
