-- Words of the contracts of private functions, and of loops.
use Rattle.std.specs.Prelude.{Bool, true, false, List, ◌++◌, Option, Some, None}
use Rattle.sail_types.specs.declared.shapes.Shape.{Shape}

-- what was learnt, where it could be
abbrev pub learnt : Bool → List Shape → Option (List Shape)
learnt true known = Some known
learnt false known = None

-- shapes behind those that were made
abbrev pub behind : List Shape → Option (List Shape) → Option (List Shape)
behind made None = None
behind made (Some ss) = Some (made ++ ss)
