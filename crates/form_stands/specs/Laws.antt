-- What is found of an expression in whose names and shapes no failure is found stands by the rules of shapes.
use Rattle.std.specs.Prelude.{◌≡◌, true, []}
use Rattle.sail_syntax.specs.declared.expressions.Exp.{Exp}
use Rattle.sail_cycles.specs.declared.expressions.Which.TheVariants.{Patterns}
use Rattle.sail_cycles.specs.Callees.{expression_callees}
use Rattle.sail_names.specs.Locals as Bound
use Rattle.sail_names.specs.Uses.{expression_failures}
use Rattle.shape_rules.specs.Scopes.{Locals}
use Rattle.shape_rules.specs.Expressions.{elaborate}
use Rattle.shape_meanings.specs.Counted.{LocalsCounted}
use Rattle.shape_meanings.specs.Naming.{AreBound, AreKnown}
use Rattle.shape_meanings.specs.Sound.{VarsSettled}
use Rattle.shape_meanings.specs.Trees.{written}
use Rattle.shape_stands.specs.Inside.{Position}
use Rattle.shape_stands.specs.Manner.{Quiet, manner}
use Rattle.shape_stands.specs.Stands.{Converting, StandsAt}

abbrev pub ExpressionsStand : Type 0
ExpressionsStand =
    (e : Exp) → written e ≡ true → (here : Position) → AreKnown here.setting here.names → (locals : Locals) (bound : Bound.Locals) → AreBound bound locals
    → VarsSettled here.setting locals → LocalsCounted here.setting.types locals → Quiet here (manner e) → expression_failures e here.names bound ≡ []
    → Converting here (expression_callees Patterns here.names.known e) → StandsAt here locals (elaborate e)
