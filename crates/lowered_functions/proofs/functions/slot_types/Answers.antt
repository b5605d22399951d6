use Rattle.std.proofs.Common.{◌∙◌, ◌++◌, map, ap}
use Rattle.lowered_slots.specs.declared.slots.Slot.{Slot}
use Rattle.lowered_functions.proofs.functions.slot_types.Goals as goal

pub returns : goal.returns
returns c = c.in_ok-push_types.ensures ∙ ap (λ us. us ++ map (λ (slot : Slot). slot.typ) c.args.slots.now) c.new-types.ensures
