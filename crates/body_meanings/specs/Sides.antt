-- A side of a mapping's clause that is read as an expression: it means in the core what it means as it is written.
use Rattle.std.specs.Prelude.{◌≡◌, true, []}
use Rattle.sail_syntax.specs.Bound.{names}
use Rattle.sail_syntax.specs.declared.patterns.Pat.{Pat}
use Rattle.sail_meaning.specs.Calls.{side_value}
use Rattle.sail_names.specs.Known as Tables
use Rattle.sail_names.specs.Locals as Bound
use Rattle.sail_names.specs.Clauses.{values_failures}
use Rattle.sail_names.specs.Patterns.{uses_failures}
use Rattle.shape_rules.specs.Scopes.{Setting, Locals}
use Rattle.shape_rules.specs.Sides.{read_side}
use Rattle.shape_meanings.specs.Trees.{side_written}
use Rattle.shape_meanings.specs.Naming.{AreBound, AreKnown}
use Rattle.shape_meanings.specs.Parts.{IsRight}

-- where each of its names is a value, and the tables have found no failure of what it calls and of its types
abbrev pub SidesAreRight : Type 0
SidesAreRight =
    (p : Pat) → side_written p ≡ true → (setting : Setting) (known : Tables.Setting) → AreKnown setting known
    → (locals : Locals) (bound : Bound.Locals) → AreBound bound locals
    → uses_failures known p ≡ [] → values_failures known bound (names p) ≡ []
    → IsRight setting locals (read_side p).elaborate (side_value p)
