-- The forms of a plain expression, which a top-level `let`, an initial value and a measure are.
use Rattle.std.specs.Prelude.{Bool, true, false}
use Rattle.sail_syntax.specs.declared.words.Choosing.{Choosing}
use Rattle.sail_syntax.specs.declared.words.Choosing.TheVariants.{Match, Try}
use Rattle.sail_syntax.specs.declared.expressions.Exp.{Exp, out-Exp}
use Rattle.sail_syntax.specs.declared.expressions.Exp.TheOpen as E
use Rattle.sail_syntax.specs.declared.expressions.Exp.TheOpen.{Exp-F}
use Rattle.sail_syntax.specs.declared.expressions.LExp.{LExp}
use Rattle.sail_syntax.specs.declared.expressions.Stmt.{Stmt}
use Rattle.sail_syntax.specs.declared.expressions.Suffix.{Suffix}
use Rattle.sail_syntax.specs.declared.expressions.Case.{Case}
use Rattle.sail_syntax.specs.declared.expressions.FieldValue.{FieldValue}
use Rattle.sail_syntax.specs.declared.expressions.Index.{Index}
use Rattle.sail_syntax.specs.declared.expressions.Range.{Range}
use Rattle.sail_syntax.specs.declared.expressions.Target.{Target}

-- `match` is one of them, `try` is not
abbrev pub plain_choosing : Choosing → Bool
plain_choosing Match = true
plain_choosing Try = false

-- no statement, loop, assignment, `return`, `throw`, `exit`, `assert` or `try`
abbrev pub plain_form : Exp-F Exp LExp Stmt Suffix Case FieldValue Index Range Target → Bool
plain_form (E.Leave place leaving a) = false
plain_form (E.Assign place target more a) = false
plain_form (E.Block place stmts a) = false
plain_form (E.Choose place choosing a cases) = plain_choosing choosing
plain_form (E.Foreach place name range a) = false
plain_form (E.Loop place looping measure a b) = false
plain_form (E.Assert place a text) = false
plain_form form = true

-- whether an expression's own form, its parts aside, is one of them
abbrev pub plain : Exp → Bool
plain e = plain_form (out-Exp e)
