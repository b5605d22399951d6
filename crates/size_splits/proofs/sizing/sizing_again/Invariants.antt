use Rattle.std.proofs.Common.{◌≡◌, drop}
use Rattle.size_splits.specs.Bodies.{bodies_read}
use Rattle.size_splits.specs.Sizing.{sizing_again, sizing_behind}
use Rattle.size_splits.proofs.sizing.sizing_again.Given as goal

abbrev pub invariant-loop-at : goal.invariant-loop-at
invariant-loop-at l =
    sizing_behind l.types l.found l.at (drop l.at l.functions) (bodies_read (drop l.at l.bodies))
    ≡ sizing_again l.types l.sizing l.functions (bodies_read l.bodies)
