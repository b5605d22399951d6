use Rattle.std.proofs.Common.{◌≡◌, ◌-◌}
use Rattle.size_splits.specs.Bodies.{bodies_read}
use Rattle.size_splits.specs.Sizing.{sizing_for}
use Rattle.size_splits.proofs.sizing.settled.Given as goal

abbrev pub invariant-loop-at : goal.invariant-loop-at
invariant-loop-at l =
    sizing_for (l.count - l._at) l.types l.sizing l.functions (bodies_read l.bodies)
    ≡ sizing_for l.count l.types l.initial.sizing l.functions (bodies_read l.bodies)
