use Rattle.std.proofs.Common.{◌≡◌, ◌++◌, drop, map}
use Rattle.pattern_leaves.specs.Settings.{around_of}
use Rattle.size_splits.specs.Bodies.{body_read}
use Rattle.size_notes.specs.Bodies.{function_bodies}
use Rattle.size_notes.proofs.models.read_functions.Given as goal

abbrev pub invariant-loop-function : goal.invariant-loop-function
invariant-loop-function l = map (map body_read) l.made ++ map (function_bodies (around_of l.around)) (drop l.function-index l.functions)
    ≡ map (function_bodies (around_of l.around)) l.functions
