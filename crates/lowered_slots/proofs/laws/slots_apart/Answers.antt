use Rattle.lowered_slots.proofs.Found.{slots_apart}
use Rattle.lowered_slots.proofs.laws.slots_apart.Goals as goal

pub returns : goal.returns
returns c = slots_apart
