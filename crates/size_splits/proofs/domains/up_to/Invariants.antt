use Rattle.std.proofs.Common.{◌≡◌, ◌-◌}
use Rattle.sail_types.specs.Readings.{behind}
use Rattle.size_splits.specs.Splits.{up_to}
use Rattle.size_splits.proofs.domains.up_to.Given as goal

abbrev pub invariant-loop-at : goal.invariant-loop-at
invariant-loop-at l = behind l.made (up_to (l.count - l._at) l.next l.high) ≡ up_to l.count l.low l.high
