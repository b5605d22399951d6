-- The shapes that builtins speak of.
use Rattle.sail_types.specs.declared.members.Sort.{Sort}
use Rattle.sail_types.specs.declared.members.Sort.TheVariants as K
use Rattle.sail_types.specs.declared.shapes.Shape.{Shape}
use Rattle.sail_types.specs.declared.shapes.Shape.TheVariants as V

abbrev pub sort_shape : Sort → Shape
sort_shape K.Int = V.Int
sort_shape K.Bits = V.Bits
sort_shape K.Bit = V.Bit
sort_shape K.Bool = V.Bool
sort_shape K.String = V.String
sort_shape K.Unit = V.Unit
sort_shape K.Item = V.Variable 0
sort_shape K.Items = V.Vector (V.Variable 0)
