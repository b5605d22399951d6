-- A form of one shape over its parts.
use Rattle.std.specs.Prelude.{List}
use Rattle.sail_base.specs.declared.place.Place.{Place}
use Rattle.sail_types.specs.declared.shapes.Shape.{Shape}
use Rattle.sail_core.specs.declared.tree.Kind.{Kind}
use Rattle.sail_core.specs.declared.tree.Core.{Core}
use Rattle.shape_rules.specs.Findings.{Found, over, settled}

unfoldable pub over_found : Place → Shape → Shape → Kind → List Core → Found
over_found place want s kind parts = settled place want s (λ t. over place kind parts)
