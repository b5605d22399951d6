-- The core that is found of an expression without a failure means what the expression means, and its values have the shape that is found;
-- whatever the Type variables in scope stand for, and whatever the worlds around it are in which names mean what they mean there.
use Rattle.std.specs.Prelude.{◌≡◌, ℕ, Bool, true, List, [], Some}
use Rattle.sail_types.specs.declared.shapes.Shape.{Shape}
use Rattle.sail_types.specs.declared.values.Value.{Value}
use Rattle.sail_syntax.specs.declared.expressions.Exp.{Exp}
use Rattle.sail_core.specs.Run.{Now}
use Rattle.sail_core.specs.Making as Core
use Rattle.sail_core.specs.Meaning.{core_meaning}
use Rattle.shape_joins.specs.Filling.{fills}
use Rattle.sail_meaning.specs.World as Source
use Rattle.sail_meaning.specs.Expressions.{meaning}
use Rattle.sail_names.specs.Known as Tables
use Rattle.sail_names.specs.Locals as Bound
use Rattle.sail_names.specs.Uses.{Failures, expression_failures}
use Rattle.shape_rules.specs.declared.locals.Local.{Local}
use Rattle.shape_rules.specs.Findings.{Found}
use Rattle.shape_rules.specs.Scopes.{Setting, Locals, local_of}
use Rattle.shape_rules.specs.Calls.{Elaborate}
use Rattle.shape_rules.specs.Expressions.{elaborate}
use Rattle.shape_meanings.specs.Whole.{Choice, IsSettled}
use Rattle.shape_meanings.specs.Counted.{LocalsCounted}
use Rattle.shape_meanings.specs.Trees.{written}
use Rattle.shape_meanings.specs.Keeping.{Fits, SeenAs, Good, reach_of, Agree}
use Rattle.shape_meanings.specs.Worlds.{Describes}
use Rattle.shape_meanings.specs.Naming.{AreKnown, AreBound}

-- what is found of something that is wanted of a shape is right for what it means: its shape is the wanted one, once filled, and in each
-- world that the setting describes the core does what the source does and gives values of the shape
pub record Right (setting : Setting) (locals : Locals) (want : Shape) (found : Found) (m : Source.Meaning) : Type 0 where
  pub above : fills want found.shape ≡ true
  pub runs : (registers : List Shape) (c : Choice) (wc : Core.World Value) (ws : Source.World) → Describes setting registers wc ws
      → (slots : List Local) → SeenAs slots locals → (now : Now Value) → Good (reach_of setting registers c slots) now
      → Agree (reach_of setting registers c slots) (Fits setting.types c found.shape) (core_meaning wc found.core now) (m ws now)

-- a local `var` of the innermost of its name has a shape that can be assigned
abbrev pub VarsSettled : Setting → Locals → Type 0
VarsSettled setting locals = (name : List ℕ) (l : Local) → local_of name locals ≡ Some l → l.is_variable ≡ true → IsSettled setting.types l.shape

-- what is elaborated so is sound for what means this: where the tables have found no failure of its names, and no failure of shapes is found, what
-- is found is right
abbrev pub Sound : Elaborate → Source.Meaning → Failures → Bool → Type 0
Sound el m failures is_written =
    is_written ≡ true → (setting : Setting) (names : Tables.Setting) → AreKnown setting names
    → (locals : Locals) (bound : Bound.Locals) → AreBound bound locals → VarsSettled setting locals → LocalsCounted setting.types locals
    → (want : Shape) → failures names bound ≡ [] → (el setting locals want).faults ≡ []
    → Right setting locals want (el setting locals want) m

-- the core of each expression means what the expression means
abbrev pub ElaborationIsSound : Type 0
ElaborationIsSound = (e : Exp) → Sound (elaborate e) (meaning e) (expression_failures e) (written e)
