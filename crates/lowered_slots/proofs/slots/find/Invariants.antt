use Rattle.std.proofs.Common.{◌≡◌, ◌+◌, drop}
use Rattle.lowered_slots.specs.Slots.{name_in}
use Rattle.lowered_slots.proofs.slots.find.Given as goal

abbrev pub invariant-loop-at : goal.invariant-loop-at
invariant-loop-at l = l.at + name_in (drop l.at l.slots) l.place l.typ ≡ name_in l.slots l.place l.typ
