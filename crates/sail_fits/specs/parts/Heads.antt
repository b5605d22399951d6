-- Shapes that stand as types beside what their variables stand for.
use Rattle.std.specs.Prelude.{Bool, true, false, List, map}
use Rattle.sail_types.specs.Shapes.{at, put, shape}
use Rattle.sail_fits.specs.declared.fitting.Head.{Head}
use Rattle.sail_fits.specs.declared.fitting.Head.TheVariants as H
use Rattle.sail_fits.specs.declared.fitting.Listed.{Listed, Listed-F, fold-Listed}
use Rattle.sail_fits.specs.declared.fitting.Listed.TheOpen as L
use Rattle.sail_fits.specs.declared.fitting.Part.{Part}
use Rattle.sail_fits.specs.declared.fitting.Part.TheVariants as P
use Rattle.sail_types.specs.declared.shapes.Shape.{Shape}
use Rattle.sail_types.specs.declared.shapes.Shape.TheVariants as V
use Rattle.sail_types.specs.declared.types.Typ.{Typ, Typ-F, out-Typ}
use Rattle.sail_types.specs.declared.types.Typ.TheOpen as T

abbrev pub form_listed : Listed-F (List Shape) → List Shape
form_listed (L.Shapes ss) = ss.now
form_listed (L.Types ts outer) = map (put (at outer.now)) (map shape ts.now)

-- the shapes
abbrev pub listed : Listed → List Shape
listed = fold-Listed (List Shape) form_listed

abbrev pub part_shape : Part → Shape
part_shape (P.Shape s) = s.now
part_shape (P.Typ t known) = put (at (listed known.now)) (shape t.now)

-- the shape of this form
abbrev pub head_shape : Head → Shape
head_shape H.Unit = V.Unit
head_shape H.Bool = V.Bool
head_shape H.Bit = V.Bit
head_shape H.Bits = V.Bits
head_shape H.Int = V.Int
head_shape H.String = V.String
head_shape (H.List part) = V.List (part_shape part)
head_shape (H.Vector part) = V.Vector (part_shape part)
head_shape (H.Tuple parts) = V.Tuple (listed parts)
head_shape (H.Named i arguments) = V.Named i (listed arguments)
head_shape (H.Variable i) = V.Variable i
head_shape H.Hole = V.Hole
head_shape H.Never = V.Never

abbrev pub form_is_exists : Typ-F Typ → Bool
form_is_exists (T.Exists name c t) = true
form_is_exists t = false

-- whether a type is a `{'n, C. T}`
abbrev pub is_exists : Typ → Bool
is_exists t = form_is_exists (out-Typ t)
