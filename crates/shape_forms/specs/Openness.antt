-- Shapes that a later value could fill, as the definitions see them.
use Rattle.sail_types.specs.declared.shapes.Shape.{Shape, fold-Shape}
use Rattle.shape_rules.specs.Targets.{Openness, openness_form}

-- whether it never ends, and whether it leaves something open inside
abbrev pub openness_in : Shape → Openness
openness_in = fold-Shape Openness openness_form
