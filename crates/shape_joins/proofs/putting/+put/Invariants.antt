use Rattle.std.proofs.Common.{◌≡◌, drop, map, ◌++◌}
use Rattle.sail_types.specs.Shapes.{at, put}
use Rattle.shape_joins.proofs.putting.+put.Given as goal

abbrev pub invariant-put_shapes-loop-shape : goal.invariant-put_shapes-loop-shape
invariant-put_shapes-loop-shape l = l.made ++ map (put (at l.known)) (drop l.shape-index l.shapes) ≡ map (put (at l.known)) l.shapes
