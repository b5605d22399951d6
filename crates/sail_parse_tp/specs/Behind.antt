-- Lists so far, with what is read behind them.
use Rattle.std.specs.Prelude.{ℤ, List, ◌++◌}
use Rattle.sail_syntax.specs.declared.name.Name.{Name}
use Rattle.sail_syntax.specs.declared.types.TyExp.{TyExp}
use Rattle.sail_syntax.specs.declared.patterns.Pat.{Pat}
use Rattle.sail_syntax.specs.declared.patterns.Joined.{Joined}
use Rattle.sail_grammar.specs.Form.{Tree}
use Rattle.sail_grammar.specs.TypeTrees.{numbers_tail_of, type_variables_of, types_tail_of}
use Rattle.sail_grammar.specs.PatternTrees.{pattern_appends_of, patterns_tail_of}

-- numbers of a set
abbrev pub numbers_behind : List ℤ → Tree → List ℤ
numbers_behind list t = list ++ numbers_tail_of t

-- type variables
abbrev pub variables_behind : List Name → Tree → List Name
variables_behind list t = list ++ type_variables_of t

-- types
abbrev pub types_behind : List TyExp → Tree → List TyExp
types_behind list t = list ++ types_tail_of t

-- parts of a concatenation
abbrev pub appends_behind : List Joined → Tree → List Joined
appends_behind list t = list ++ pattern_appends_of t

-- patterns
abbrev pub patterns_behind : List Pat → Tree → List Pat
patterns_behind list t = list ++ patterns_tail_of t
