use Rattle.std.proofs.Common.{◌≡◌, ◌-◌, ◌+◌, length}
use Rattle.jib_values.specs.Sources.{filled}
use Rattle.jib_values.proofs.reading.put_slot.Given as goal

abbrev pub invariant-loop-slots : goal.invariant-loop-slots
invariant-loop-slots l = filled l.slots.items ≡ filled l.initial.slots.items

abbrev pub decreases-loop-slots : goal.decreases-loop-slots
decreases-loop-slots l = l.index + 1 - length l.slots.items
