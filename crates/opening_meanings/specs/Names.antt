-- A plain expression in whose names the tables find no failure calls no function, mapping or overload: so the same is found of it where there are none.
use Rattle.std.specs.Prelude.{◌≡◌, false, []}
use Rattle.sail_types.specs.declared.shapes.Shape.{Shape}
use Rattle.sail_syntax.specs.declared.patterns.Pat.{Pat}
use Rattle.sail_syntax.specs.declared.expressions.Exp.{Exp}
use Rattle.sail_names.specs.Known as Tables
use Rattle.sail_names.specs.Known.{is_any}
use Rattle.sail_names.specs.Locals as Bound
use Rattle.sail_names.specs.Patterns.{uses_failures}
use Rattle.sail_names.specs.Uses.{expression_failures}
use Rattle.shape_rules.specs.Expressions.{elaborate}
use Rattle.shape_rules.specs.Patterns.{Widths, look}
use Rattle.shape_rules.specs.Scopes.{Locals, Setting}
use Rattle.shape_meanings.specs.Naming.{AreKnown}
use Rattle.opening_meanings.specs.Plain.{uncalled}

abbrev pub PlainExpressionsCallNothing : Type 0
PlainExpressionsCallNothing =
    (e : Exp) (setting : Setting) (names : Tables.Setting) → AreKnown setting names → is_any names.allowed ≡ false
    → (bound : Bound.Locals) → expression_failures e names bound ≡ []
    → (locals : Locals) (want : Shape) → elaborate e setting locals want ≡ elaborate e (uncalled setting) locals want

-- nor does a pattern in it
abbrev pub PlainPatternsCallNothing : Type 0
PlainPatternsCallNothing =
    (p : Pat) (setting : Setting) (names : Tables.Setting) → AreKnown setting names → is_any names.allowed ≡ false → uses_failures names p ≡ []
    → (widths : Widths) (subject : Shape) → look p setting widths subject ≡ look p (uncalled setting) widths subject
