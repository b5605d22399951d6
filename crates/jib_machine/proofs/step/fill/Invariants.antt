use Rattle.std.proofs.Common.{◌≡◌, ◌-◌, length, ℕ, true}
use Rattle.std.specs.Prelude.{slice_index_or}
use Rattle.jib_machine.specs.parts.Begun.{begun_slots}
use Rattle.jib_machine.proofs.step.fill.Given as goal

abbrev pub invariant-fill : goal.invariant-fill
invariant-fill l =
    (i : ℕ) → slice_index_or l.needs i true ≡ true
    → begun_slots l.machine.program.types l.types l.slots.items i ≡ begun_slots l.machine.program.types l.types l.fn.slots.items i

abbrev pub decreases-fill : goal.decreases-fill
decreases-fill l = length l.types - length l.slots.items
