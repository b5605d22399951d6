use Rattle.std.proofs.Common.{◌≡◌, ◌++◌, [], drop, map}
use Rattle.size_splits.specs.Bodies.{body_read}
use Rattle.constraint_gen.specs.Models.{around_opening, around_with}
use Rattle.size_notes.specs.Bodies.{opening_bodies}
use Rattle.size_notes.proofs.models.read_openings.Given as goal

abbrev pub invariant-loop-at : goal.invariant-loop-at
invariant-loop-at l =
    map body_read l.made ++ opening_bodies (around_opening l.core l.at) (drop l.at l.core.openings) ≡ opening_bodies (around_with l.core []) l.core.openings
