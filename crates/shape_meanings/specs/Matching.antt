-- The core of a pattern does what the pattern does, and binds the names that were found, each to a value of its shape.
use Rattle.std.specs.Prelude.{◌≡◌, true, List, [], ◌∷◌}
use Rattle.sail_types.specs.declared.shapes.Shape.{Shape}
use Rattle.sail_types.specs.declared.shapes.Shape.TheVariants as V
use Rattle.sail_types.specs.declared.values.Value.{Value}
use Rattle.sail_syntax.specs.declared.patterns.Pat.{Pat}
use Rattle.sail_core.specs.Run.{Now}
use Rattle.sail_core.specs.Making as Core
use Rattle.sail_core.specs.Making.{plainly}
use Rattle.sail_core.specs.Patterns as Steps
use Rattle.sail_meaning.specs.World as Source
use Rattle.sail_meaning.specs.World.{Piece, Bindings}
use Rattle.sail_meaning.specs.Patterns.{Matcher, matching}
use Rattle.sail_names.specs.Known as Tables
use Rattle.sail_names.specs.Patterns.{uses_failures}
use Rattle.shape_rules.specs.declared.locals.Local.{Local}
use Rattle.shape_rules.specs.Scopes.{Setting}
use Rattle.shape_rules.specs.Patterns.{Looked, Widths, Piece as Looking, look}
use Rattle.shape_meanings.specs.Whole.{Choice}
use Rattle.shape_meanings.specs.Trees.{pattern_written}
use Rattle.shape_meanings.specs.Keeping.{Fits, Suits, Good, reach_of, Agree}
use Rattle.shape_meanings.specs.Worlds.{Describes}
use Rattle.shape_meanings.specs.Naming.{AreKnown}

-- what a pattern does with a value
abbrev pub Match : Type 0
Match = Source.World → Value → Piece Bindings

-- the world in which bare identifiers in patterns have these widths
abbrev pub with_widths : Widths → Source.World → Source.World
with_widths widths ws = record ws { bare_width = widths }

-- what is found of a pattern that values of this shape come to is right
pub record LooksRight (setting : Setting) (widths : Widths) (subject : Shape) (p : Looked) (m : Match) : Type 0 where
  pub runs : (registers : List Shape) (c : Choice) (wc : Core.World Value) (ws : Source.World) → Describes setting registers wc ws
      → (slots : List Local) (v : Value) → Fits setting.types c subject v → (now : Now Value) → Good (reach_of setting registers c slots) now
      → Agree (reach_of setting registers c slots) (Suits setting.types c p.binds) (Steps.matcher plainly wc p.pattern v now)
      (m (with_widths widths ws) v now)

-- where the tables have found no failure of its names, and no failure of shapes is found, a pattern is right
abbrev pub PatternsAreSound : Type 0
PatternsAreSound =
    (p : Pat) → pattern_written p ≡ true → (setting : Setting) (names : Tables.Setting) → AreKnown setting names
    → (widths : Widths) (subject : Shape) → uses_failures names p ≡ [] → (look p setting widths subject).faults ≡ []
    → LooksRight setting widths subject (look p setting widths subject) (λ w. matching w p)

-- a part of a pattern is right, whatever shape comes to it
abbrev pub PieceIs : Setting → Widths → Looking → Match → Type 0
PieceIs setting widths p m = (subject : Shape) → (p.look setting widths subject).faults ≡ []
    → LooksRight setting widths subject (p.look setting widths subject) m

abbrev pub PiecesAre : Setting → Widths → List Looking → List Matcher → Type 0
PiecesAre setting widths [] [] = Unit {0}
PiecesAre setting widths (p ∷ ps) (m ∷ ms) = PieceIs setting widths p (λ w v. m.matches w v) × PiecesAre setting widths ps ms
PiecesAre setting widths ps ms = ⊥

-- a part of a word has the same width of its own in both
abbrev pub WidthIs : Setting → Widths → Looking → Matcher → Type 0
WidthIs setting widths p m =
    (p.look setting widths V.Bits).faults ≡ [] → (registers : List Shape) (wc : Core.World Value) (ws : Source.World) → Describes setting registers wc ws
    → m.width (with_widths widths ws) ≡ p.width setting widths

abbrev pub WidthsAre : Setting → Widths → List Looking → List Matcher → Type 0
WidthsAre setting widths [] [] = Unit {0}
WidthsAre setting widths (p ∷ ps) (m ∷ ms) = WidthIs setting widths p m × WidthsAre setting widths ps ms
WidthsAre setting widths ps ms = ⊥
