-- The shape of a type with what its Type variables stand for, of which the law on shapes speaks.
use Rattle.std.specs.Prelude.{List, [], ◌∷◌}
use Rattle.sail_types.specs.Belongs.{Reading, Readings, reading, no_readings, more_readings}
use Rattle.sail_types.specs.Shapes.{at, put, shape}
use Rattle.sail_types.specs.declared.shapes.Shape.{Shape}

abbrev mutual
  pub read_shape : Reading → Shape
  read_shape (reading t nu rs) = put (at (read_shapes rs)) (shape t)

  pub read_shapes : Readings → List Shape
  read_shapes no_readings = []
  read_shapes (more_readings r rs) = read_shape r ∷ read_shapes rs
