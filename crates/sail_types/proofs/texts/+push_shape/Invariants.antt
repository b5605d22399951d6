use Rattle.std.proofs.Common.{◌≡◌, drop, map, ◌++◌}
use Rattle.std.specs.Prelude.{codes}
use Rattle.sail_types.specs.Texts.{shape_text, rest_joined, listed}
use Rattle.sail_types.proofs.texts.+push_shape.Given as goal

abbrev pub invariant-push_shapes-loop-shape : goal.invariant-push_shapes-loop-shape
invariant-push_shapes-loop-shape l =
    l.out.items ++ rest_joined l.first (codes ", ") (map (shape_text l.types l.names) (drop l.shape-index l.shapes))
    ≡ l.initial.out.items ++ listed (map (shape_text l.types l.names) l.shapes)
