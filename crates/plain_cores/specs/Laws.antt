-- What is found of a plain expression ends neither with No nor by throwing.
use Rattle.std.specs.Prelude.{◌≡◌, true}
use Rattle.sail_syntax.specs.declared.expressions.Exp.{Exp}
use Rattle.shape_rules.specs.Expressions.{elaborate}
use Rattle.shape_stands.specs.Manner.{manner}
use Rattle.plain_cores.specs.Ends.{IsFine}

-- whatever shape is wanted of it
abbrev pub PlainCoresDecide : Type 0
PlainCoresDecide = (e : Exp) → (manner e).is_plain ≡ true → IsFine (elaborate e)
