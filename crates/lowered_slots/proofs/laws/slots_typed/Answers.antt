use Rattle.lowered_slots.proofs.Found.{slots_typed}
use Rattle.lowered_slots.proofs.laws.slots_typed.Goals as goal

pub returns : goal.returns
returns c = slots_typed
