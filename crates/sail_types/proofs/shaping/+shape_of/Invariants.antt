use Rattle.std.proofs.Common.{◌≡◌, drop, map, ◌++◌}
use Rattle.sail_types.specs.Shapes.{shape}
use Rattle.sail_types.proofs.shaping.+shape_of.Given as goal

abbrev pub invariant-shapes_of-loop-typ : goal.invariant-shapes_of-loop-typ
invariant-shapes_of-loop-typ l = l.made ++ map shape (drop l.typ-index l.types) ≡ map shape l.types
