-- Tests on the trees of rows.
use Rattle.std.specs.Prelude.{Bool}
use Rattle.std.specs.Option.{is_some}
use Rattle.sail_grammar.specs.Form.{Tree}
use Rattle.sail_grammar.specs.Targets.{target}
use Rattle.sail_grammar.specs.ExpTrees.{infix_of, statement_of, value_if}

-- a statement is an expression: no `let` and no `var` without `in`
abbrev pub is_exp : Tree → Bool
is_exp t = is_some (value_if (statement_of t))

-- an operand is what may be assigned to
abbrev pub is_target : Tree → Bool
is_target t = is_some (target (infix_of t))
