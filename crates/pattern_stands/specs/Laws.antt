-- What is found of a pattern in whose names and shapes no failure is found stands by the rules of shapes (Sail language manual, "Pattern matching").
use Rattle.std.specs.Prelude.{◌≡◌, true, List, [], ◌∷◌, Some}
use Rattle.sail_syntax.specs.declared.patterns.Pat.{Pat}
use Rattle.sail_types.specs.declared.numbers.Num.{Num}
use Rattle.sail_types.specs.declared.shapes.Shape.{Shape}
use Rattle.sail_types.specs.declared.values.Value.{Value}
use Rattle.sail_core.specs.Making.{World}
use Rattle.sail_cycles.specs.Callees.{pattern_callees}
use Rattle.sail_names.specs.Patterns.{uses_failures}
use Rattle.shape_rules.specs.Patterns.{Piece, Widths, look, piece}
use Rattle.shape_meanings.specs.Naming.{AreKnown}
use Rattle.shape_meanings.specs.Whole.{Choice}
use Rattle.shape_progress.specs.Conditions.{given_in}
use Rattle.shape_stands.specs.Inside.{Inside, Position}
use Rattle.shape_stands.specs.Stands.{AreGiven, Converting, LooksShaped}

-- whatever shape comes to it, and whatever widths bare names have
abbrev pub PatternsStand : Type 0
PatternsStand =
    (p : Pat) (here : Position) → AreKnown here.setting here.names → uses_failures here.names p ≡ []
    → Converting here (pattern_callees here.names.known p) → (widths : Widths) (subject : Shape) → (look p here.setting widths subject).faults ≡ []
    → LooksShaped here widths subject (look p here.setting widths subject)

-- the width that a part of a word has, where it has one, is a number over what variables stand for
abbrev pub WidthGiven : Position → Widths → Piece → Type 0
WidthGiven here widths p =
    (registers : List Shape) (c : Choice) (w : World Value) → Inside here registers c w → AreGiven widths w → (n : Num)
    → p.width here.setting widths ≡ Some n → given_in w.numbers n ≡ true

abbrev pub WidthsGiven : Position → Widths → List Piece → Type 0
WidthsGiven here widths [] = Unit {0}
WidthsGiven here widths (p ∷ ps) = WidthGiven here widths p × WidthsGiven here widths ps

abbrev pub WidthsAreGiven : Type 0
WidthsAreGiven =
    (p : Pat) (here : Position) → AreKnown here.setting here.names → uses_failures here.names p ≡ []
    → Converting here (pattern_callees here.names.known p) → (widths : Widths) → WidthGiven here widths (piece p)
