-- What the code holds of the named type of which a shape is.
use Rattle.std.specs.Prelude.{ℕ, List}
use Rattle.sail_types.specs.declared.shapes.Shape.{Shape}
use Rattle.shape_calls.specs.declared.values.Named.{Named}

abbrev pub named_of : Named → ℕ × List Shape
named_of named = (named.place, named.arguments.now)
