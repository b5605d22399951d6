-- Widths of bare names in a mapping's clause, which they have from their places on the other side (Sail language manual, "Mappings").
use Rattle.std.specs.Prelude.{◌≡◌, List, [], Some}
use Rattle.sail_types.specs.declared.shapes.Shape.{Shape}
use Rattle.sail_types.specs.declared.types.Typ.{Typ}
use Rattle.sail_types.specs.declared.values.Value.{Value}
use Rattle.sail_syntax.specs.declared.patterns.Pat.{Pat}
use Rattle.sail_core.specs.Making as Core
use Rattle.sail_meaning.specs.Widths.{width_on}
use Rattle.sail_meaning.specs.World as Source
use Rattle.sail_names.specs.Known as Tables
use Rattle.sail_names.specs.Patterns.{uses_failures}
use Rattle.shape_rules.specs.Scopes.{Setting}
use Rattle.shape_rules.specs.Sides.{gives, width_given}
use Rattle.shape_meanings.specs.Naming.{AreKnown}
use Rattle.shape_meanings.specs.Worlds.{Describes}

-- where the tables have found no failure of what a side uses, a side of this type gives each name the same width in both
abbrev pub WidthsAreGiven : Type 0
WidthsAreGiven =
    (setting : Setting) (names : Tables.Setting) → AreKnown setting names → (typ : Typ) (side : Pat) → uses_failures names side ≡ []
    → (registers : List Shape) (wc : Core.World Value) (ws : Source.World) → Describes setting registers wc ws
    → width_on ws typ side ≡ width_given (gives side setting (Some typ))
