-- Lists so far, with what is read behind them.
use Rattle.std.specs.Prelude.{List, ◌++◌}
use Rattle.sail_syntax.specs.declared.name.Name.{Name}
use Rattle.sail_syntax.specs.declared.definitions.Member.{Member}
use Rattle.sail_syntax.specs.declared.definitions.Param.{Param}
use Rattle.sail_grammar.specs.Form.{Tree}
use Rattle.sail_grammar.specs.DefTrees.{names_tail, bars_of, members_tail, parameters_tail, variables_of}

-- names between commas
abbrev pub names_behind : List Name → Tree → List Name
names_behind list t = list ++ names_tail t

-- names between `|`
abbrev pub bars_behind : List Name → Tree → List Name
bars_behind list t = list ++ bars_of t

-- members
abbrev pub members_behind : List Member → Tree → List Member
members_behind list t = list ++ members_tail t

-- type variables between commas
abbrev pub parameters_behind : List Param → Tree → List Param
parameters_behind list t = list ++ parameters_tail t

-- bound type variables
abbrev pub variables_behind : List Param → Tree → List Param
variables_behind list t = list ++ variables_of t
