-- What is found of a pattern in whose names and shapes no failure is found passes the test of patterns (Sail language manual, "Pattern matching").
use Rattle.std.specs.Prelude.{◌≡◌, true, List, []}
use Rattle.sail_syntax.specs.declared.patterns.Pat.{Pat}
use Rattle.sail_types.specs.declared.numbers.Index.{Index}
use Rattle.sail_types.specs.declared.shapes.Shape.{Shape}
use Rattle.sail_types.specs.declared.table.Types.{Types}
use Rattle.sail_types.specs.declared.values.Value.{Value}
use Rattle.sail_core.specs.Making.{World}
use Rattle.sail_names.specs.Known as Tables
use Rattle.sail_names.specs.Patterns.{uses_failures}
use Rattle.shape_rules.specs.Patterns.{Widths, look}
use Rattle.shape_rules.specs.Scopes.{Setting}
use Rattle.shape_meanings.specs.Naming.{AreKnown}
use Rattle.shape_meanings.specs.Whole.{Choice}
use Rattle.shape_stands.specs.Inside.{Inside, Position}
use Rattle.pattern_laws.specs.Standing.{stands}
use Rattle.found_patterns.specs.Meant.{NamesStand, WidthsOwn, WidthsStand}

-- whatever shape comes to it
abbrev pub FoundPatternsStand : Type 0
FoundPatternsStand =
    (types : Types) (numbers : List Index) (p : Pat) (setting : Setting) (names : Tables.Setting) → AreKnown setting names → uses_failures names p ≡ []
    → NamesStand types setting names → WidthsOwn numbers setting names → (widths : Widths) → WidthsStand numbers widths → (subject : Shape)
    → (look p setting widths subject).faults ≡ [] → stands types numbers (look p setting widths subject).pattern ≡ true

-- what can be named in a world is in its table of types
abbrev pub NamesAreThere : Type 0
NamesAreThere =
    (here : Position) (registers : List Shape) (c : Choice) (w : World Value) → AreKnown here.setting here.names → Inside here registers c w
    → NamesStand here.setting.types here.setting here.names
