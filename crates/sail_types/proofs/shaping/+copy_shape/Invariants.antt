use Rattle.std.proofs.Common.{◌≡◌, drop, ◌++◌}
use Rattle.sail_types.proofs.shaping.+copy_shape.Given as goal

abbrev pub invariant-copy_shapes-loop-shape : goal.invariant-copy_shapes-loop-shape
invariant-copy_shapes-loop-shape l = l.copies ++ drop l.shape-index l.shapes ≡ l.shapes
