use Rattle.lowered_slots.proofs.Found.{slots_last}
use Rattle.lowered_slots.proofs.laws.slots_last.Goals as goal

pub returns : goal.returns
returns c = slots_last
