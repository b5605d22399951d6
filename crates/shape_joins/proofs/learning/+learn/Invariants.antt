use Rattle.std.proofs.Common.{◌≡◌, drop, map, length}
use Rattle.shape_joins.specs.Learning.{learn, learn_all}
use Rattle.shape_joins.proofs.learning.+learn.Given as goal

abbrev pub invariant-learn_shapes-loop-index : goal.invariant-learn_shapes-loop-index
invariant-learn_shapes-loop-index l =
    (length l.params ≡ length l.shapes)
    × (learn_all (map learn (drop l.index l.params)) (drop l.index l.shapes) l.known ≡ learn_all (map learn l.params) l.shapes l.initial.known)
