-- What stands for a list of cases of which a part has been read, and for a token.
use Rattle.std.specs.Prelude.{List, ◌++◌}
use Rattle.sail_syntax.specs.declared.expressions.Exp.{Exp}
use Rattle.sail_syntax.specs.declared.expressions.Exp.TheVariants as V
use Rattle.sail_syntax.specs.declared.expressions.Case.{Case}
use Rattle.sail_grammar.specs.Form.{Tree}
use Rattle.sail_grammar.specs.Leaves.{place_at, literal_at}
use Rattle.sail_grammar.specs.ExpTrees.{cases_tail}

abbrev pub cases_behind : List Case → Tree → List Case
cases_behind list t = list ++ cases_tail t

-- a literal of one token
abbrev pub constant_of : Tree → Exp
constant_of t = V.Constant (place_at t) (literal_at t)
