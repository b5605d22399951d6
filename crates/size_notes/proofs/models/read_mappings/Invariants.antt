use Rattle.std.proofs.Common.{◌≡◌, ◌*◌, ◌++◌, drop, map}
use Rattle.pattern_leaves.specs.Settings.{around_of}
use Rattle.size_splits.specs.Bodies.{body_read}
use Rattle.size_notes.specs.Bodies.{mapping_bodies}
use Rattle.size_notes.proofs.models.read_mappings.Given as goal

abbrev pub invariant-loop-pair : goal.invariant-loop-pair
invariant-loop-pair l = map body_read l.made ++ mapping_bodies (around_of l.around) (drop (2 * l.pair) l.directions)
    ≡ mapping_bodies (around_of l.around) l.directions
